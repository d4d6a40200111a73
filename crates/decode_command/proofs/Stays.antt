-- Bytes that are too many stay too many, whatever follows.
use Rattle.std.proofs.Common.{◌≡◌, ◌∙◌, ◌<◌, ◌≤◌, ℕ, ltb, if◌then◌else◌, Bool, true, false, List, ◌++◌, length, refl, sym, ap, arith, Some, None, length-append}
use Rattle.std.proofs.lemmas.Bool.{cond-true, ltb-true, lt-ltb}
use Rattle.std.proofs.lemmas.List.{take-append-le}
use Rattle.run_status.specs.declared.input_errors.Bound.TheVariants.{InputBytes}
use Rattle.run_status.specs.declared.input_errors.InputError.{InputError}
use Rattle.run_status.specs.declared.input_errors.InputError.TheVariants.{AtLimit}
use Rattle.run_status.specs.Runs.{Steady}
use Rattle.decode_command.specs.declared.context.DecodeContext.{DecodeContext}
use Rattle.decode_command.specs.Spec.{decode_telling, decode_spec}
use Rattle.decode_command.specs.Tellings.{Telling, most_input_bytes, telling_spec}

module _ (t : Telling) where
  stays_at : (ended : Bool) (taken more : List ℕ) (stop : InputError) (long : Bool) → ltb most_input_bytes (length taken) ≡ long → (if long then Some (AtLimit InputBytes) else None) ≡ Some stop
      → ((telling_spec t).stop ended (taken ++ more) ≡ Some stop) × ((telling_spec t).report ended (taken ++ more) ≡ (telling_spec t).report false taken)
  stays_at ended taken more stop true is e =
      let past = ltb-true most_input_bytes (length taken) is in
      let longer : most_input_bytes < length (taken ++ more) = omega (arith, past, length-append taken more) in
      let within : most_input_bytes ≤ length taken = omega (arith, past) in (
        cond-true (ltb most_input_bytes (length (taken ++ more))) _ _ (lt-ltb most_input_bytes (length (taken ++ more)) longer) ∙ e,
        cond-true (ltb most_input_bytes (length (taken ++ more))) _ _ (lt-ltb most_input_bytes (length (taken ++ more)) longer)
            ∙ ap (t.told false) (take-append-le most_input_bytes taken more within)
            ∙ sym (cond-true (ltb most_input_bytes (length taken)) _ _ is),
      )
  stays_at ended taken more stop false is e = absurd (cc e)

  -- a run that is stopped stays stopped
  pub telling_steady : Steady (telling_spec t)
  telling_steady = record {
    stays = λ ended taken more stop e. stays_at ended taken more stop (ltb most_input_bytes (length taken)) refl e;
  }

pub decode_steady : (known : DecodeContext) → Steady (decode_spec known)
decode_steady known = telling_steady (decode_telling known)
