-- Each `command` line leads to at most one command done otherwise than by the kept result between two starts of its
-- drone.
use Rattle.std.specs.Prelude.{ℕ, ◌≡◌, ◌<◌, ◌+◌, Bool, true, List, ◌++◌, slice_get, Some}
use Rattle.mav_names.specs.declared.names.Name.{Name}
use Rattle.mav_names.specs.Addresses.{is_for_node, node_of}
use Rattle.mav_frame.specs.Packet.{Packet}
use Rattle.mav_nodes.specs.Nodes.{DroneSide, StationSide}
use Rattle.node_reports.specs.Nodes.{Drone, Station}
use Rattle.fleet_world.specs.WorldState.{WorldState}
use Rattle.fleet_world.specs.Scenario.{played, at_start, lines_played}
use Rattle.scenario_lines.specs.FileLines.{whole_lines}
use Rattle.fleet_world.specs.Authentic.{Authentic}
use Rattle.fleet_invariants.specs.Kept.{IsAmong}
use Rattle.mav_messages.specs.declared.commands.CommandLong.{CommandLong}
use Rattle.fleet_command_laws.specs.Lines.{commanded, order_in, orders_begun, line_at}
use Rattle.fleet_command_laws.specs.Done.{Moment, entries_of, done_since, AreMoments}

-- the frame with index `i` of some is the one with index `a` of those that were sent, and a station's of this name
pub record IsFrame (sent done : List Packet) (name : Name) (i a : ℕ) : Type 0 where
  pub packet : Packet
  pub done_there : slice_get done i ≡ Some packet
  pub sent_there : slice_get sent a ≡ Some packet
  pub from : packet.from ≡ name

-- the frame with index `a` of those that were sent is a command for the node `me`, and has its line's order: of the
-- lines of the station of this name that have begun, the one with that number, counted from 1
pub record IsOrdered (sent : List Packet) (me name : Name) (a : ℕ) (packet : Packet) : Type 0 where
  pub message : CommandLong
  pub is : commanded name packet ≡ Some message
  pub for_me : is_for_node me (order_in message).target ≡ true
  pub line : ℕ
  pub line_is : line_at name sent a ≡ line + 1
  pub order : slice_get (orders_begun name sent) line ≡ Some (order_in message)

-- of the frames at which the drone `me` did commands, those of one station belong to different lines, and to later
-- ones later; and each is for this drone, with its line's number and parameters
pub record AreOnce (sent done : List Packet) (me name : Name) : Type 0 where
  pub once : (i j a b : ℕ) → IsFrame sent done name i a → IsFrame sent done name j b
      → line_at name sent a ≡ line_at name sent b → i ≡ j
  pub in_order : (i j a b : ℕ) → IsFrame sent done name i a → IsFrame sent done name j b → i < j
      → line_at name sent a < line_at name sent b
  pub ordered : (i a : ℕ) → (f : IsFrame sent done name i a) → IsOrdered sent me name a f.packet

-- a drone's history since its start, with some readiness at each entry, is how its executor came to be what it is; and
-- whatever the readiness, each frame at which it did a command was sent, is for it, and has the order of its line; and
-- no two are of one line of one station
pub record DoesOnce (s : WorldState) (d : DroneSide) : Type 0 where
  pub moments : List Moment
  pub are : AreMoments d moments
  pub sent : (moments : List Moment) → entries_of moments ≡ d.link.history
      → (i : ℕ) (p : Packet) → slice_get (done_since d moments) i ≡ Some p → IsAmong s.sent p
  pub lines : (moments : List Moment) → entries_of moments ≡ d.link.history
      → (k : ℕ) (station : StationSide) → slice_get s.nodes k ≡ Some (Station station)
      → AreOnce s.sent (done_since d moments) (node_of d.link.me) (node_of station.link.me)

-- every drone of a state
abbrev pub EachDoesOnce : WorldState → Type 0
EachDoesOnce s = (k : ℕ) (d : DroneSide) → slice_get s.nodes k ≡ Some (Drone d) → DoesOnce s d

-- the state in the end, and after each of the whole lines, so also before each start of a drone
pub record EachCommandOnce (key : List ℕ) (ended : Bool) (bytes : List ℕ) : Type 0 where
  pub last : EachDoesOnce (played key ended bytes).state
  pub each : (before after : List (List ℕ)) → whole_lines bytes ≡ before ++ after
      → EachDoesOnce (lines_played (at_start key) 1 before).state

abbrev pub EveryCommandOnce : Type 0
EveryCommandOnce = (key : List ℕ) (ended : Bool) (bytes : List ℕ) → Authentic key ended bytes
    → EachCommandOnce key ended bytes
