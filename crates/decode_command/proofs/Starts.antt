-- What `decode` holds before the first byte.
use Rattle.std.proofs.Common.{◌≡◌, ◌<◌, true, false, [], length, refl, sym, subst, lit≤}
use Rattle.mav_profile.specs.Messages.{extras_of}
use Rattle.mav_stream.specs.Held.{nothing_held}
use Rattle.mav_stream.proofs.Steps.{begun}
use Rattle.decode_command.specs.declared.context.DecodeContext.{DecodeContext}
use Rattle.decode_command.specs.Decodes.{Decoding, HasDecoded, decoding_load}

module _ (known : DecodeContext) where
  abbrev pub decode_start : Decoding
  decode_start = record { known = known; reader = nothing_held (extras_of known.dialect) true; offset = 0; frames = 0; skipped = 0 }

  pub decode_new : (d : Decoding) → d ≡ decode_start → HasDecoded d false [] []
  decode_new d is =
      subst (λ (z : Decoding). HasDecoded z false [] []) (sym is)
      (record { given = []; is_ended = refl; progress = begun (extras_of known.dialect) true; offset = refl; frames = refl; skipped = refl; lines = refl })

  pub decode_room : (d : Decoding) → d ≡ decode_start → length d.reader.bytes < 288
  decode_room d is = subst (λ (z : Decoding). length z.reader.bytes < 288) (sym is) (lit≤ tt)

  pub decode_load : (d : Decoding) → d ≡ decode_start → decoding_load d ≡ 0
  decode_load d is = subst (λ (z : Decoding). decoding_load z ≡ 0) (sym is) refl
