-- Each accepted `command` line begins one line of its station, with one frame of confirmation 0, and nothing else
-- begins any: so the number of a line is its place among the `command` lines that its station accepted. That frame is
-- for the drone which the line names, and has its number, and its word as the first parameter.
use Rattle.std.specs.Prelude.{ℕ, ◌≡◌, ◌++◌, Bool, if◌then◌else◌, List, [], ◌∷◌, slice_get, position, Option, Some}
use Rattle.std.specs.Prelude.{None, Ok, Err}
use Rattle.std.specs.declared.result.Result.{Result}
use Rattle.mav_names.specs.declared.names.Name.{Name}
use Rattle.mav_names.specs.Addresses.{same_name, node_of}
use Rattle.command_proto.specs.Commander.{open_command}
use Rattle.mav_nodes.specs.Nodes.{StationSide}
use Rattle.scenario_lines.specs.declared.lines.Line.{Line}
use Rattle.scenario_lines.specs.declared.lines.Line.TheVariants.{Command}
use Rattle.node_reports.specs.Nodes.{Node, Drone, Station}
use Rattle.fleet_world.specs.WorldState.{WorldState, is_station_named}
use Rattle.fleet_world.specs.Steps.{Step, StepError, after_line}
use Rattle.fleet_world.specs.Authentic.{HoldsOfEach, Authentic}
use Rattle.fleet_command_laws.specs.Lines.{Order, orders_begun}

-- the order of a `command` line: its number, with its word as the first of seven parameters and the others 0
abbrev pub order_of : Name → ℕ → ℕ → Order
order_of drone number word = record {
  target = drone;
  command = record { number = number; params = word ∷ 0 ∷ 0 ∷ 0 ∷ 0 ∷ 0 ∷ 0 ∷ [] };
}

-- an order is accepted if no command is open
abbrev pub accepts : Order → Option ℕ → List Order
accepts order None = order ∷ []
accepts order (Some number) = []

-- what the station of this name accepts at a node that is asked for it
abbrev pub accepted_at : Order → Name → Option Node → List Order
accepted_at order name None = []
accepted_at order name (Some (Drone n)) = []
accepted_at order name (Some (Station n)) =
    if same_name (node_of n.link.me) name then accepts order (open_command n.services.commander) else []

abbrev pub accepted_found : Order → WorldState → Name → Option ℕ → List Order
accepted_found order s name None = []
accepted_found order s name (Some k) = accepted_at order name (slice_get s.nodes k)

-- and in a line: `command` asks the station that it names
abbrev pub accepted_by : WorldState → Line → Name → List Order
accepted_by s (Command station drone number word) name =
    accepted_found (order_of drone number word) s name (position (is_station_named station) s.nodes)
accepted_by s _ name = []

-- a station of this name
pub record HasStation (s : WorldState) (name : Name) : Type 0 where
  pub index : ℕ
  pub node : StationSide
  pub found : slice_get s.nodes index ≡ Some (Station node)
  pub name_is : node_of node.link.me ≡ name

-- in a step lines of each station begin with these orders
abbrev pub BeginsLines : WorldState → (Name → List Order) → Result Step StepError → Type 0
BeginsLines s orders (Ok t) =
    (name : Name) → HasStation s name → orders_begun name t.state.sent ≡ orders_begun name s.sent ++ orders name
BeginsLines s orders (Err error) = Unit {0}

-- a line that is done
abbrev pub DoneBegins : WorldState → Option Line → Type 0
DoneBegins s None = Unit {0}
DoneBegins s (Some line) = BeginsLines s (accepted_by s line) (after_line s line)

abbrev pub EachLineBegins : (key : List ℕ) (ended : Bool) (bytes : List ℕ) → Type 0
EachLineBegins key ended bytes = HoldsOfEach DoneBegins key ended bytes

abbrev pub EveryLineBegins : Type 0
EveryLineBegins = (key : List ℕ) (ended : Bool) (bytes : List ℕ) → Authentic key ended bytes
    → EachLineBegins key ended bytes
