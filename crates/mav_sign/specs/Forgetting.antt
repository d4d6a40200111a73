-- What forgetting the streams whose frames would be too old changes of admission.
use Rattle.std.specs.Prelude.{ℕ, ◌≡◌, List}
use Rattle.mav_names.specs.declared.names.Stream.{Stream}
use Rattle.mav_frame.specs.Packet.{Packet}
use Rattle.mav_sign.specs.declared.admission.Admit.TheVariants.{TooManyStreams}
use Rattle.mav_sign.specs.History.{is_admitted}
use Rattle.mav_sign.specs.Kept.{Admits, HasRoom, Kept, kept_answer_to, present, stamp_at}

-- what one verifier keeps, and another one that has forgotten some streams whose last timestamp is past
pub record Forgot (all some : Kept) : Type 0 where
  pub last : (number : ℕ) → present all.accepted (stamp_at number some.last)
      ≡ present all.accepted (stamp_at number all.last)
  pub accepted : some.accepted ≡ all.accepted
  pub previous : some.previous ≡ all.previous
  pub low : some.low ≡ all.low

-- it admits the same frames, but for the limit of streams
abbrev pub AdmitsTheSame : Type 0
AdmitsTheSame =
    (key : List ℕ) (all some : Kept) (packet : Packet) → Forgot all some
    → (kept_answer_to key all packet ≡ TooManyStreams → ⊥) → (kept_answer_to key some packet ≡ TooManyStreams → ⊥)
    → is_admitted (kept_answer_to key some packet) ≡ is_admitted (kept_answer_to key all packet)

-- and still does once it has made room
abbrev pub StaysForgetful : Type 0
StaysForgetful = (all some room : Kept) → Forgot all some → HasRoom some room → Forgot all room

-- and once both have admitted a frame; one that isn't admitted changes nothing
abbrev pub LearnsAlike : Type 0
LearnsAlike =
    (all some all_new some_new : Kept) (stream : Stream) (stamp : ℕ) → Forgot all some
    → Admits stream stamp all all_new → Admits stream stamp some some_new → Forgot all_new some_new
