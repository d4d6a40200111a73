-- A lock and the handles of its participants, as contracts see them.
use Rattle.std.specs.Prelude.{◌≡◌, ℕ, List, ◌++◌, length, drop, Bool, true, false, refl}
use Rattle.std.specs.Coded.{Coded, code_by, coded×, coded_ℕ, coded_bool, coded_list}
use Rattle.atomic_table.specs.Seated.{TableId, table_id_coded}
use Rattle.turnstile.specs.declared.participant.ParticipantState.{ParticipantState}
use Rattle.turnstile.specs.Journals.{StandAt, positions_from}
use Rattle.turnstile.specs.Steps.{new_participant}

-- a `Turn`: which it is, the opening value's entries, and how many handles it has
pub record Lock (E : Type 0) : Type 0 where
  pub id : TableId
  pub opening : List E
  pub handles : ℕ

-- a `TurnSeat`: of which `Turn` it is, the history that it has seen, its own entries with their positions there, and
-- whether it is between `enter` and `leave`
pub record Participant (E : Type 0) : Type 0 where
  pub lock : TableId
  pub seen : List E
  pub own : List E
  pub positions : List ℕ
  pub has_turn : Bool

abbrev pub lock_code : {E : Type 0} → Coded E → Coded (Lock E)
lock_code {E} code =
    code_by (TableId × (List E × ℕ)) (coded× table_id_coded (coded× (coded_list code) coded_ℕ))
    (λ l. (l.id, (l.opening, l.handles)))
    (λ p. record { id = p.0; opening = p.1.0; handles = p.1.1 }) (λ _. refl)

abbrev pub participant_code : {E : Type 0} → Coded E → Coded (Participant E)
participant_code {E} code =
    code_by (TableId × (List E × (List E × (List ℕ × Bool))))
    (coded× table_id_coded (coded× (coded_list code)
    (coded× (coded_list code) (coded× (coded_list coded_ℕ) coded_bool))))
    (λ p. (p.lock, (p.seen, (p.own, (p.positions, p.has_turn)))))
    (λ p. record { lock = p.0; seen = p.1.0; own = p.1.1.0; positions = p.1.1.1.0; has_turn = p.1.1.1.1 })
    (λ _. refl)

module _ {E : Type 0} where
  abbrev pub participant_of : TableId → ParticipantState E → Participant E
  participant_of id p = record {
    lock = id;
    seen = p.seen;
    own = p.own;
    positions = p.positions;
    has_turn = p.has_turn;
  }

  -- the participant that `Turn::new` makes
  abbrev pub opened : TableId → List E → Participant E
  opened id opening = participant_of id (new_participant opening 1)

  -- after `enter` gave the value with this history
  abbrev pub entered : Participant E → List E → Participant E
  entered p history = record p { seen = history; has_turn = true }

  -- after `leave` took the value with this history: what the history has after all that was seen is its own
  abbrev pub left : Participant E → List E → Participant E
  left p history =
      let added = drop (length p.seen) history in
      record {
        lock = p.lock;
        seen = history;
        own = p.own ++ added;
        positions = p.positions ++ positions_from (length p.seen) added;
        has_turn = false;
      }

  -- its own entries stand in what it has seen, at the positions that it keeps, each once and in the order of its turns
  abbrev pub HasItsOwn : Participant E → Type 0
  HasItsOwn p = StandAt p.seen 0 p.positions p.own

  -- it is a handle of the lock, and isn't between `enter` and `leave`
  pub record CanEnter (l : Lock E) (p : Participant E) : Type 0 where
    pub of : p.lock ≡ l.id
    pub outside : p.has_turn ≡ false
