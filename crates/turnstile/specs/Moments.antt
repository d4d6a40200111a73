-- Where a participant is between its ticket and its release.
use Rattle.std.specs.Prelude.{◌≡◌, ℕ, ◌%◌, ◌^◌, List, [], ◌∷◌, true, false, Option, Some, None}
use mathlib.Core.List.{IsPrefix}
use Rattle.atomic_table.specs.Table.{Me}
use Rattle.turnstile.specs.declared.participant.ParticipantState.{ParticipantState}
use Rattle.turnstile.specs.Journals.{StandAt}

-- its own entries stand in what it has seen, at the positions that it keeps, each once and in the order of its turns
abbrev pub OwnEntriesStand : {E : Type 0} → ParticipantState E → Type 0
OwnEntriesStand p = StandAt p.seen 0 p.positions p.own

-- the steps of `enter` keep what is its own
pub record KeepsOwn {E : Type 0} (p q : ParticipantState E) : Type 0 where
  pub own : q.own ≡ p.own
  pub positions : q.positions ≡ p.positions
  pub represents : q.represents ≡ p.represents

module _ {V E : Type 0} where
  -- it has no ticket
  pub record IsOutside (m : Me (Option V) (ParticipantState E)) : Type 0 where
    pub no_ticket : m.0.ticket ≡ None
    pub no_turn : m.0.has_turn ≡ false
    pub no_slot : m.1 ≡ []

  -- it has the ticket of this number, and doesn't have its turn yet
  pub record IsWaiting (number : ℕ) (m : Me (Option V) (ParticipantState E)) : Type 0 where
    pub ticket : (t : ℕ) × (m.0.ticket ≡ Some t) × (t % 2 ^ 64 ≡ number)
    pub no_turn : m.0.has_turn ≡ false
    pub no_slot : m.1 ≡ []

  -- it has its turn, and the value is checked out of the slot
  pub record IsInside (m : Me (Option V) (ParticipantState E)) : Type 0 where
    pub ticket : (t : ℕ) × (m.0.ticket ≡ Some t)
    pub has_turn : m.0.has_turn ≡ true
    pub slot : m.1 ≡ (0, None) ∷ []

  -- it got its turn, at this history
  pub record HasEntered (history : List E) (m n : Me (Option V) (ParticipantState E)) : Type 0 where
    pub inside : IsInside n
    pub seen : n.0.seen ≡ history
    pub begins : IsPrefix m.0.seen history
    pub own : KeepsOwn m.0 n.0

  -- what every handle of a lock has: it is outside or inside, never in between
  pub record IsHandle (m : Me (Option V) (ParticipantState E)) : Type 0 where
    pub one : m.0.represents ≡ 1
    pub own : OwnEntriesStand m.0
    pub outside : m.0.has_turn ≡ false → IsOutside m
    pub inside : m.0.has_turn ≡ true → IsInside m
