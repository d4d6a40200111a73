-- A drone's history only goes on, so that all that it heard since its latest start is in it; it begins anew in a
-- `restart` line of that drone, and nowhere else.
use Rattle.std.specs.Prelude.{ℕ, ◌≡◌, ◌⊎◌, true, List, [], ◌∷◌, ◌++◌, slice_get, Some, Ok, Err}
use Rattle.std.specs.declared.result.Result.{Result}
use Rattle.mav_names.specs.Addresses.{same_name, node_of}
use Rattle.mav_frame.specs.Packet.{Packet}
use Rattle.mav_sign.specs.History.{Entry, tried, answer_to}
use Rattle.mav_nodes.specs.Links.{Done}
use Rattle.mav_nodes.specs.Services.{ready_of}
use Rattle.mav_nodes.specs.Steps.{hears}
use Rattle.mav_nodes.specs.Nodes.{DroneSide, drone_rules}
use Rattle.mav_nodes.specs.Restarts.{restarted_drone}
use Rattle.scenario_lines.specs.declared.lines.Line.{Line}
use Rattle.scenario_lines.specs.declared.lines.Line.TheVariants.{Blank, Drone as DroneLine, Station as StationLine}
use Rattle.scenario_lines.specs.declared.lines.Line.TheVariants.{Item as OneItem, Items, Empty, Begin, Cancel, Clear}
use Rattle.scenario_lines.specs.declared.lines.Line.TheVariants.{Get, Command, Params, Heartbeat, Deliver, Flow, Noise}
use Rattle.scenario_lines.specs.declared.lines.Line.TheVariants.{Tick, Clock, Restart, Sim, WhereIs}
use Rattle.node_reports.specs.Nodes.{Drone}
use Rattle.fleet_world.specs.WorldState.{WorldState}
use Rattle.fleet_world.specs.Steps.{Step, StepError, after_line}
use Rattle.fleet_command_laws.specs.Done.{step_at}

-- a history goes on from another
pub record GoesOn (before after : List Entry) : Type 0 where
  pub more : List Entry
  pub is : after ≡ before ++ more

-- the node with this index is a drone whose history goes on from this one
pub record HasHistory (t : WorldState) (k : ℕ) (before : List Entry) : Type 0 where
  pub node : DroneSide
  pub found : slice_get t.nodes k ≡ Some (Drone node)
  pub goes_on : GoesOn before node.link.history

-- of the drone with an index, after a line
abbrev pub HistoryAfter : Line → WorldState → WorldState → ℕ → DroneSide → Type 0
HistoryAfter (Restart drone) s t k d =
    HasHistory t k d.link.history ⊎ ((same_name (node_of d.link.me) drone ≡ true)
    × HasHistory t k (restarted_drone s.key d).link.history)
HistoryAfter Blank s t k d = HasHistory t k d.link.history
HistoryAfter (DroneLine sys x y) s t k d = HasHistory t k d.link.history
HistoryAfter (StationLine sys comp) s t k d = HasHistory t k d.link.history
HistoryAfter (OneItem item) s t k d = HasHistory t k d.link.history
HistoryAfter (Items n first) s t k d = HasHistory t k d.link.history
HistoryAfter Empty s t k d = HasHistory t k d.link.history
HistoryAfter (Begin station drone kind) s t k d = HasHistory t k d.link.history
HistoryAfter (Cancel station) s t k d = HasHistory t k d.link.history
HistoryAfter (Clear station drone kind) s t k d = HasHistory t k d.link.history
HistoryAfter (Get station drone kind) s t k d = HasHistory t k d.link.history
HistoryAfter (Command station drone number word) s t k d = HasHistory t k d.link.history
HistoryAfter (Params station drone) s t k d = HasHistory t k d.link.history
HistoryAfter (Heartbeat node) s t k d = HasHistory t k d.link.history
HistoryAfter (Deliver number node) s t k d = HasHistory t k d.link.history
HistoryAfter (Flow n) s t k d = HasHistory t k d.link.history
HistoryAfter (Noise node bytes) s t k d = HasHistory t k d.link.history
HistoryAfter (Tick node) s t k d = HasHistory t k d.link.history
HistoryAfter (Clock n) s t k d = HasHistory t k d.link.history
HistoryAfter (Sim drone n) s t k d = HasHistory t k d.link.history
HistoryAfter (WhereIs drone) s t k d = HasHistory t k d.link.history

abbrev pub HistoriesAfter : WorldState → Line → Result Step StepError → Type 0
HistoriesAfter s line (Ok t) = (k : ℕ) (d : DroneSide) → slice_get s.nodes k ≡ Some (Drone d)
    → HistoryAfter line s t.state k d
HistoriesAfter s line (Err error) = Unit {0}

-- in any state
abbrev pub EveryHistoryGoesOn : Type 0
EveryHistoryGoesOn = (s : WorldState) (line : Line) → HistoriesAfter s line (after_line s line)

-- ---- one frame

-- a drone has heard a frame: the frame and its verdict are the next entry, before those of what it sends in reply, and
-- its executor has done the step of that entry, as ready as the drone was
pub record HasHeard (n : DroneSide) (p : Packet) (after : DroneSide) : Type 0 where
  pub history : GoesOn (n.link.history ++ tried p (answer_to n.link.key n.link.history p) ∷ []) after.link.history
  pub executor : after.services.executor ≡ (step_at n.services.executor (ready_of n.core n.services)
      (tried p (answer_to n.link.key n.link.history p))).executor

-- as each frame of a datagram is heard
abbrev pub EveryFrameHeard : Type 0
EveryFrameHeard = (clock : ℕ) (p : Packet) (n : DroneSide) (d : Done DroneSide) → hears drone_rules clock p n ≡ Some d
    → HasHeard n p d.node
