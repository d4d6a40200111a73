-- The invariant of the ticket lock, which every step keeps.
use Rattle.std.specs.Prelude.{◌≡◌, ℕ, ◌+◌, ◌%◌, ◌^◌, ◌<◌, ◌≤◌, ◌⊎◌, List, [], ◌∷◌, length, All, true, false}
use Rattle.std.specs.Prelude.{if◌then◌else◌, Option, Some, is_some}
use mathlib.Core.Option as maybe
use mathlib.Core.List.{IsPrefix}
use lib.ListN.{get_elem?}
use Rattle.atomic_table.specs.Table.{State}
use Rattle.turnstile.specs.declared.participant.ParticipantState.{ParticipantState}

module _ {E : Type 0} where
  -- 1 if the participant has a ticket, else 0
  abbrev pub tickets_held : ParticipantState E → ℕ
  tickets_held p = if is_some p.ticket then 1 else 0

  abbrev pub total : (ParticipantState E → ℕ) → List (ParticipantState E) → ℕ
  total f [] = 0
  total f (p ∷ ps) = f p + total f ps

  abbrev pub represented : List (ParticipantState E) → ℕ
  represented ps = total (λ p. p.represents) ps

  abbrev pub own_entries : List (ParticipantState E) → ℕ
  own_entries ps = total (λ p. length p.own) ps

  abbrev pub Each : List (ParticipantState E) → (ℕ → ParticipantState E → Type 0) → Type 0
  Each ps P = (j : ℕ) (p : ParticipantState E) → get_elem? ps j ≡ maybe.some p → P j p

  -- one participant beside the counts and the history
  pub record IsConsistent (tickets turns : ℕ) (history : List E) (p : ParticipantState E) : Type 0 where
    pub seen : IsPrefix p.seen history
    pub merged : All (λ xs. IsPrefix xs history) p.merged
    -- a retired participant has no ticket and no own entries
    pub alone : tickets_held p ≤ p.represents
    pub spent : p.represents ≡ 0 → p.own ≡ []
    pub between : (t : ℕ) → p.ticket ≡ Some t → (turns ≤ t) × (t < tickets)
    -- whoever has the turn has the ticket of the number of turns, and has seen the whole history
    pub has_turn : p.has_turn ≡ true → (p.ticket ≡ Some turns) × (p.seen ≡ history)

module _ {V E : Type 0} (journal : V → List E) where
  -- the value is in its slot, its entries are the history, and nobody has the turn; or the slot is out, and somebody
  -- has the turn
  abbrev pub IsLocated : List (maybe.Option (Option V)) → List (ParticipantState E) → List E → Type 0
  IsLocated slots ps history =
      ((x : V) × (slots ≡ maybe.some (Some x) ∷ []) × (journal x ≡ history) × Each ps (λ _ p. p.has_turn ≡ false))
      ⊎ ((slots ≡ maybe.none ∷ []) × ((j : ℕ) × (p : ParticipantState E) × (get_elem? ps j ≡ maybe.some p)
      × (p.has_turn ≡ true)))

  -- Tickets and turns are counted modulo 2^64. There are at most 255 handles, so the number of a ticket tells it apart
  -- from the others that are held
  pub record TurnInvariant (opening handles : ℕ) (s : State (Option V) (ParticipantState E)) : Type 0 where
    pub tickets : ℕ
    pub turns : ℕ
    pub history : List E
    pub words : s.words ≡ tickets % 2 ^ 64 ∷ turns % 2 ^ 64 ∷ []
    pub outstanding : tickets ≡ turns + total tickets_held s.views
    pub all_represented : represented s.views ≡ handles
    pub few : handles ≤ 255
    pub each : Each s.views (λ _ p. IsConsistent tickets turns history p)
    -- no two participants have one ticket
    pub apart : (j k : ℕ) (p q : ParticipantState E) (t : ℕ) → get_elem? s.views j ≡ maybe.some p
        → get_elem? s.views k ≡ maybe.some q → p.ticket ≡ Some t → q.ticket ≡ Some t → j ≡ k
    -- the opening value's entries and all own entries are as many as the history's
    pub added : length history ≡ opening + own_entries s.views
    pub located : IsLocated s.homes s.views history
