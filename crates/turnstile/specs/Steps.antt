-- What a participant of the lock knows, and the eight kinds of step.
-- The lock is a ticket lock over a table: word 0 counts the tickets taken, word 1 the turns released, and slot 0 has
-- the value.
use Rattle.std.specs.Prelude.{◌≡◌, ℕ, ◌+◌, ◌-◌, ◌%◌, ◌^◌, ◌==◌, List, [], ◌∷◌, ◌++◌, length, drop, true, false, Option}
use Rattle.std.specs.Prelude.{Some, None, MatchBool}
use mathlib.Core.List.{IsPrefix}
use Rattle.atomic_table.specs.Table.{Me, Step}
use Rattle.turnstile.specs.declared.participant.ParticipantState.{ParticipantState}
use Rattle.turnstile.specs.Journals.{positions_from}

pub data StepKind (E : Type 0) : Type 0 where
  opens : List E → ℕ → StepKind E
  splits : StepKind E
  takes_ticket : ℕ → StepKind E
  polls : List E → StepKind E
  checks_out : StepKind E
  checks_in : StepKind E
  releases : List E → StepKind E
  joins : ParticipantState E → StepKind E

module _ {E : Type 0} where
  -- a participant that has seen this history, has added nothing, and represents so many handles
  abbrev pub new_participant : List E → ℕ → ParticipantState E
  new_participant seen represents = record {
    seen = seen;
    own = [];
    merged = [];
    positions = [];
    represents = represents;
    ticket = None;
    has_turn = false;
  }

  -- without a ticket, and with these entries as its own
  abbrev pub with_entries : ParticipantState E → List E → ParticipantState E
  with_entries p es = record {
    seen = p.seen ++ es;
    own = p.own ++ es;
    merged = p.merged;
    positions = p.positions ++ positions_from (length p.seen) es;
    represents = p.represents;
    ticket = None;
    has_turn = false;
  }

  -- What each kind of step makes of the participant that steps
  abbrev pub after : StepKind E → ParticipantState E → ParticipantState E
  -- the table is made with both words 0 and the value in the slot: the first participant has seen the opening value's
  -- entries, and represents all handles
  after (opens entries handles) p = new_participant entries handles
  -- a load of word 0 splits off a participant that has seen the same, has added nothing and represents one handle:
  -- this one represents one less
  after splits p = record p { represents = p.represents - 1 }
  -- fetch_add on word 0: the participant has the ticket of the number that it found
  after (takes_ticket ticket) p = record p { ticket = Some ticket }
  -- a load of word 1 that finds the participant's ticket: the slot goes out to it, and it has seen the value's entries
  after (polls entries) p = record p { seen = entries; has_turn = true }
  -- an exchange of the slot for nothing: the participant has the value itself
  after checks_out p = p
  -- an exchange of the slot for the value
  after checks_in p = p
  -- fetch_add on word 1: the slot goes home, the ticket is spent, and what the value's entries have after those seen
  -- is the participant's own
  after (releases entries) p = with_entries p entries
  -- a load of word 0 merges another participant into this one, which keeps what each had seen; the other is retired
  after (joins other) p = record {
    seen = p.seen;
    own = p.own ++ other.own;
    merged = other.seen ∷ other.merged ++ p.merged;
    positions = p.positions ++ other.positions;
    represents = p.represents + other.represents;
    ticket = None;
    has_turn = false;
  }

  -- the participant that a split makes
  abbrev pub split_off : ParticipantState E → ParticipantState E
  split_off p = new_participant p.seen 1

  -- the participant that was merged into another: it represents no handle
  abbrev pub retired : ParticipantState E
  retired = new_participant [] 0

-- What the three steps that tell something tell: of the participant and the slots it has before, the number found, and
-- both after
module _ {V E : Type 0} (journal : V → List E) where
  abbrev At : Type 0
  At = Me (Option V) (ParticipantState E)

  -- the number found is that of its ticket
  abbrev pub ticket_taken : Step (Option V) → At → ℕ → At → Type 0
  ticket_taken step before found later = (ticket : ℕ) × (ticket % 2 ^ 64 ≡ found)
      × (later.0 ≡ after (takes_ticket ticket) before.0) × (later.1 ≡ before.1)

  -- if and only if the number found is that of its ticket, it has its turn and the value, whose entries begin with
  -- those it had seen
  abbrev pub polled : Step (Option V) → At → ℕ → At → Type 0
  polled step before found later = (ticket : ℕ) → before.0.ticket ≡ Some ticket → MatchBool (found == ticket % 2 ^ 64)
      ((value : V) × IsPrefix before.0.seen (journal value) × (later.0 ≡ after (polls (journal value)) before.0)
      × (later.1 ≡ (0, Some value) ∷ before.1))
      (later ≡ before)

  -- the value is back, and what its entries have after those seen is the participant's own
  abbrev pub released : Step (Option V) → At → ℕ → At → Type 0
  released step before found later = (value : V) → before.1 ≡ (0, Some value) ∷ []
      → later ≡ (after (releases (drop (length before.0.seen) (journal value))) before.0, [])
