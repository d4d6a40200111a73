-- What comes in and goes out at the links of a relay, by the events of its history.
use Rattle.std.specs.Prelude.{ℕ, ◌≡◌, ◌+◌, ◌==◌, ◌&&◌, Bool, if◌then◌else◌, List, [], ◌∷◌, ◌++◌, map, filter}
use Rattle.std.specs.List.{list_any}
use Rattle.mav_frame.specs.Packet.{Packet}
use Rattle.mav_sign.specs.declared.admission.Admit.{Admit}
use Rattle.mav_sign.specs.History.{is_admitted}
use Rattle.mav_sign.specs.Kept.{Kept}
use Rattle.mav_router.specs.Journal.{Rules}
use Rattle.relay_rules.specs.States.{LinkState, RelayState, goes_to, no_link}
use Rattle.relay_rules.specs.Laws.{nothing_opened}
use Rattle.relay_rules.specs.Steps.{Event, opens, closes, hears, refuses, forgets, Step}

-- of a link that was opened: its port, the frames that came in there, refused ones too, and those that go out there
pub record Flow : Type 0 where
  pub port : ℕ
  pub heard : List Packet
  pub sent : List Packet

-- what is told of a frame: the number of its link, or 0 of somebody who has no link; the frame; its verdict; and the
-- numbers of the links that it goes to, in the order of their opening
pub record Told : Type 0 where
  pub number : ℕ
  pub packet : Packet
  pub answer : Admit
  pub to : List ℕ

abbrev pub no_flow : ℕ → Flow
no_flow port = record { port = port; heard = []; sent = [] }

-- the open link with that number
abbrev pub link_numbered : ℕ → List LinkState → LinkState
link_numbered number [] = no_link
link_numbered number (link ∷ links) = if link.number == number then link else link_numbered number links

-- a frame with this verdict of one link goes to another one
abbrev pub passes : Rules → Packet → Admit → LinkState → LinkState → Bool
passes rules packet answer own other = is_admitted answer && goes_to rules packet own other

-- and to the link with that number, which is open
abbrev pub reaches : Rules → Packet → Admit → List LinkState → (own number : ℕ) → Bool
reaches rules packet answer links own number =
    list_any (λ (other : LinkState). (other.number == number)
    && passes rules packet answer (link_numbered own links) other) links

-- the numbers of all those that it goes to
abbrev pub ways_to : Rules → Packet → Admit → List LinkState → ℕ → List ℕ
ways_to rules packet answer links own =
    map (λ (link : LinkState). link.number) (filter (passes rules packet answer (link_numbered own links)) links)

-- one item more, if it is so
abbrev pub with_if : {A : Type 0} → Bool → A → List A → List A
with_if {A} is x xs = if is then xs ++ x ∷ [] else xs

-- the flow of the link with that number, after a frame of another one or of its own
abbrev pub flow_after : Rules → Packet → Admit → List LinkState → (own number : ℕ) → Flow → Flow
flow_after rules packet answer links own number flow = record {
  port = flow.port;
  heard = with_if (number == own) packet flow.heard;
  sent = with_if (reaches rules packet answer links own number) packet flow.sent;
}

-- a list whose items, numbered from a number on, are each changed by its number
abbrev pub each_from : {A : Type 0} → (ℕ → A → A) → ℕ → List A → List A
each_from {A} f number [] = []
each_from {A} f number (x ∷ xs) = f number x ∷ each_from f (number + 1) xs

-- the flows of all links that were opened, by their numbers from 1, after an event at which these links are open
abbrev pub flows_after : Rules → Event → List LinkState → List Flow → List Flow
flows_after rules (opens number port) links flows = flows ++ no_flow port ∷ []
flows_after rules (closes number) links flows = flows
flows_after rules (hears number packet answer) links flows =
    each_from (flow_after rules packet answer links number) 1 flows
flows_after rules (refuses port packet answer) links flows = flows
flows_after rules forgets links flows = flows

abbrev pub one_told : ℕ → Packet → Admit → List ℕ → List Told
one_told number packet answer to = (record { number = number; packet = packet; answer = answer; to = to }) ∷ []

-- what is told of an event
abbrev pub told_of : Rules → Event → List LinkState → List Told
told_of rules (opens number port) links = []
told_of rules (closes number) links = []
told_of rules (hears number packet answer) links =
    one_told number packet answer (ways_to rules packet answer links number)
told_of rules (refuses port packet answer) links = one_told 0 packet answer []
told_of rules forgets links = []

-- how far a relay is in its history: its state, what came in and went out so far, and what was told
pub record Course : Type 0 where
  pub state : RelayState
  pub flows : List Flow
  pub told : List Told

-- an event more
pub record Goes (rules : Rules) (event : Event) (before after : Course) : Type 0 where
  pub step : Step rules event before.state after.state
  pub flows : after.flows ≡ flows_after rules event before.state.links before.flows
  pub told : after.told ≡ before.told ++ told_of rules event before.state.links

-- events one after another
abbrev pub GoesBy : Rules → List Event → (before after : Course) → Type 0
GoesBy rules [] before after = after ≡ before
GoesBy rules (event ∷ events) before after =
    (middle : Course) × Goes rules event before middle × GoesBy rules events middle after

-- before anything happened
abbrev pub nothing_yet : Kept → Course
nothing_yet kept = record { state = nothing_opened kept; flows = []; told = [] }
