-- What follows from the rules of a relay.
use Rattle.std.specs.Prelude.{ℕ, ◌≡◌, ◌+◌, ◌==◌, ◌&&◌, ◌||◌, not, false, List, [], ◌∷◌, ◌++◌, length, map, filter}
use Rattle.std.specs.Prelude.{Option, Some, None}
use Rattle.std.specs.List.{filter_map}
use Rattle.mav_names.specs.declared.names.Name.{Name}
use Rattle.mav_frame.specs.Packet.{Packet}
use Rattle.mav_sign.specs.Kept.{Kept}
use Rattle.link_table.specs.Routing.{Learned, has_port, is_behind}
use Rattle.mav_router.specs.Journal.{Rules, is_unsigned, target_by}
use Rattle.relay_rules.specs.States.{LinkState, RelayState, goes_to, taught}
use Rattle.relay_rules.specs.Steps.{Event, opens, closes, hears, refuses, forgets, Leads}

-- no frame goes back to its own link
abbrev pub NeverBack : Type 0
NeverBack = (rules : Rules) (packet : Packet) (link : LinkState) → goes_to rules packet link link ≡ false

-- before anything happened
abbrev pub nothing_opened : Kept → RelayState
nothing_opened kept = record { given = 0; links = []; kept = kept }

-- the numbers that links were given
abbrev pub number_by : Event → Option ℕ
number_by (opens number port) = Some number
number_by (closes number) = None
number_by (hears number packet answer) = None
number_by (refuses port packet answer) = None
number_by forgets = None

abbrev pub numbers_in : List Event → List ℕ
numbers_in events = filter_map number_by events

-- each link gets the number after those given before it, of links that have closed too: so none is given twice
abbrev pub NeverTwice : Type 0
NeverTwice =
    (rules : Rules) (kept : Kept) (before after : List Event) (number port : ℕ) (state : RelayState)
    → Leads rules (before ++ opens number port ∷ after) (nothing_opened kept) state
    → number ≡ length (numbers_in before) + 1

-- the nodes that a router learned at a port
abbrev pub names_at : ℕ → List Learned → List Name
names_at port learned = map (λ (l : Learned). l.from) (filter (λ (l : Learned). l.port == port) learned)

-- a link that is a router's port, and has learned what the router has there
pub record IsPort (learned : List Learned) (link : LinkState) : Type 0 where
  pub same : link.number ≡ link.port
  pub names : link.names ≡ names_at link.port learned

-- where links are a router's ports and never close, a frame that is admitted goes where the router sends it
abbrev pub GoesAsRouted : Type 0
GoesAsRouted =
    (rules : Rules) (learned : List Learned) (packet : Packet) (own other : LinkState) → IsPort learned own
    → IsPort learned other → goes_to rules packet own other
    ≡ (not (other.port == own.port) && (is_behind learned other.port (target_by rules packet)
    && (not (is_unsigned packet) || has_port rules.plain other.port)))

-- and they still are once its sender was learned
abbrev pub LearnsAsRouted : Type 0
LearnsAsRouted =
    (learned : List Learned) (from : Name) (own other : LinkState) → IsPort learned own → IsPort learned other
    → IsPort (learned ++ (record { port = own.port; from = from }) ∷ [])
    (taught (other.port == own.port) from other)
