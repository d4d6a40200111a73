-- The loop of `close`, which merges all handles into one participant.
use Rattle.std.specs.Prelude.{◌≡◌, ◌+◌, List, length, All, sum_by, Option}
use mathlib.Core.List.{IsPrefix}
use Rattle.atomic_table.specs.Seated.{TableId}
use Rattle.atomic_table.specs.Table.{Me}
use Rattle.turnstile.specs.declared.participant.ParticipantState.{ParticipantState}
use Rattle.turnstile.specs.Moments.{IsOutside}
use Rattle.turnstile.specs.Participants.{Participant, Lock, CanEnter}

module _ {E : Type 0} where
  -- the history begins with all that the participant had seen, itself and those that it took in
  pub record Extends (history : List E) (p : ParticipantState E) : Type 0 where
    pub seen : IsPrefix p.seen history
    pub merged : All (λ xs. IsPrefix xs history) p.merged

  -- the history begins with all that this handle had seen
  abbrev pub Continues : List E → Participant E → Type 0
  Continues history p = IsPrefix p.seen history

  -- the merged participant represents the handles that aren't left
  pub record IsMerged {V : Type 0} (l : Lock E) (id : TableId) (m : Me (Option V) (ParticipantState E))
      (left handles : List (Participant E)) : Type 0 where
    pub of : id ≡ l.id
    pub outside : IsOutside m
    pub others : All (CanEnter l) left
    pub counts : m.0.represents + length left ≡ length handles
    pub owns : length m.0.own + sum_by (λ p. length p.own) left ≡ sum_by (λ p. length p.own) handles
    pub began : (history : List E) → Extends history m.0 → All (Continues history) left
        → All (Continues history) handles
