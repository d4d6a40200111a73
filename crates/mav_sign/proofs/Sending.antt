-- A frame that carries a message.
use Rattle.std.proofs.Common.{◌≡◌, ℕ, true, false, List, Some, sym, ap, ◌∙◌, refl, subst}
use Rattle.x25_check.specs.Extras.{extra_of}
use Rattle.field_layout.specs.Payload.{serialised, truncated, FitsLayout, Represents}
use Rattle.field_layout.proofs.Unique.{truncated_represents}
use Rattle.mav_names.specs.declared.names.Stream.{Stream}
use Rattle.mav_messages.specs.declared.messages.Message.{Message}
use Rattle.mav_messages.specs.Messages.{definition_of, values_of}
use Rattle.mav_frame.specs.Packet.{SignatureBlock}
use Rattle.mav_frame.specs.Encoding.{sealed, unsealed}
use Rattle.mav_sign.specs.Endpoints.{FrameOf}

not_old : false ≡ true → ⊥
not_old e = cc

pub sealed_frame : (me : Stream) (extras : List (ℕ × ℕ)) (seq stamp : ℕ) (message : Message) (id extra : ℕ) (payload : List ℕ) (block : SignatureBlock) → id ≡ (definition_of message).id → extra_of (definition_of message).id extras ≡ Some extra → FitsLayout (definition_of message) (values_of message) → payload ≡ truncated (serialised (definition_of message) (values_of message)) → FrameOf me extras seq stamp message (sealed extra (unsealed seq (record { sys = me.sys; comp = me.comp }) id payload (Some block)))
sealed_frame me extras seq stamp message id extra payload block is known fits bytes = record {
  version = refl;
  compat = refl;
  seq_is = refl;
  from = refl;
  id = is;
  payload = bytes;
  represents = subst (λ (l : List ℕ). Represents (definition_of message) l (values_of message)) (sym bytes) (truncated_represents (definition_of message) (values_of message) fits);
  sealed = record { extra = extra; known = ap (λ (n : ℕ). extra_of n extras) is ∙ known; right = refl; version = λ bad. absurd (not_old bad) };
  signed = refl;
}
