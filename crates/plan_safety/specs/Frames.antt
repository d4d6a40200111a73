-- Signed frames that were sent, as far as the mission protocol sees them.
use Rattle.std.specs.Prelude.{ℕ, ◌≡◌, ◌≤◌, ◌⊎◌, List, [], ◌∷◌, Option, Some}
use Rattle.mav_names.specs.declared.names.Stream.{Stream}
use Rattle.plan_items.specs.declared.messages.PlanMsg.{PlanMsg}

-- a frame: the stream that signed it, its timestamp, and its plan message; None is a message of another service
pub record Frame : Type 0 where
  pub from : Stream
  pub timestamp : ℕ
  pub message : Option PlanMsg

-- among these frames there is one of the stream with this message, at that timestamp or a later one
abbrev pub Said : List Frame → Stream → ℕ → PlanMsg → Type 0
Said [] stream since m = ⊥
Said (f ∷ fs) stream since m = ((f.from ≡ stream) × (since ≤ f.timestamp) × (f.message ≡ Some m))
    ⊎ Said fs stream since m

-- among these frames, the newest first, there is one of the stream with this message, and that holds of those sent
-- before it
abbrev pub SaidAfter : (List Frame → Type 0) → List Frame → Stream → PlanMsg → Type 0
SaidAfter Before [] stream m = ⊥
SaidAfter Before (f ∷ fs) stream m = ((f.from ≡ stream) × (f.message ≡ Some m) × Before fs)
    ⊎ SaidAfter Before fs stream m
