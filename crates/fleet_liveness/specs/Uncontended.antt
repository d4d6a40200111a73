-- An uncontended upload, as a scenario's bytes have it: a begin line of a valid plan, with a long enough
-- flow as the very next line. And what then happens within that flow line.
use Rattle.std.specs.Prelude.{◌≡◌, ℕ, ◌+◌, ◌*◌, ◌<◌, ◌≤◌, Bool, true, false, List, [], ◌∷◌, ◌++◌, length, slice_get}
use Rattle.std.specs.Prelude.{Option, Some, None}
use Rattle.mav_nodes.specs.Nodes.{DroneSide, StationSide}
use Rattle.mav_names.specs.declared.names.Name.{Name}
use Rattle.plan_items.specs.declared.items.Item.{Item}
use Rattle.plan_items.specs.declared.kinds.PlanKind.{PlanKind}
use Rattle.plan_items.specs.Kinds.{number_of}
use Rattle.plan_items.specs.Validation.{IsValid}
use Rattle.plan_upload.specs.Drone.{is_other}
use Rattle.plan_upload.specs.Station.{Told_installed}
use Rattle.plan_upload.specs.Refusals.{upload_refusal}
use Rattle.mav_sign.specs.History.{low_of, last_of}
use Rattle.scenario_lines.specs.declared.lines.Line.TheVariants.{Begin, Flow}
use Rattle.scenario_lines.specs.Grammar.{line_of}
use Rattle.fleet_report.specs.Events.{Event, Installed, Ended}
use Rattle.node_reports.specs.Nodes.{Drone, Station, node_name}
use Rattle.fleet_world.specs.WorldState.{WorldState, stream_of, drones_in}
use Rattle.fleet_world.specs.Scenario.{Played, at_start, line_played, last_played, lines_played, played}
use Rattle.scenario_lines.specs.FileLines.{whole_lines, unfinished, without_cr}

-- which station uploads what to which drone
pub record Upload : Type 0 where
  pub station : Name
  pub drone : Name
  pub kind : PlanKind
  pub plan : List Item

-- the line after the begin line: a whole one with more after it, or the last one, without its LF, of an input that
-- ended
pub data NextLine : Type 0 where
  Whole : (raw : List ℕ) (more : List (List ℕ)) → NextLine
  Last : (raw : List ℕ) → NextLine

abbrev pub text_of : NextLine → List ℕ
text_of (Whole raw more) = without_cr raw
text_of (Last raw) = raw

-- a scenario's lines around a begin line
pub record Lines : Type 0 where
  pub front : List (List ℕ)  -- those before it
  pub begin : List ℕ
  pub flow : NextLine

-- the bytes have these lines, one right after the other
abbrev pub HaveLines : Bool → List ℕ → List (List ℕ) → List ℕ → NextLine → Type 0
HaveLines ended bytes front begin (Whole raw more) = whole_lines bytes ≡ front ++ begin ∷ raw ∷ more
HaveLines ended bytes front begin (Last raw) = (ended ≡ true)
    × ((whole_lines bytes ≡ front ++ begin ∷ []) × (unfinished bytes ≡ raw))

-- what the lines before the begin line lead to, and those up to it
abbrev pub before : List ℕ → Lines → Played
before key l = lines_played (at_start key) 1 l.front

abbrev pub begun : List ℕ → Lines → Played
begun key l = line_played (before key l) (length l.front + 1) l.begin

-- and those up to the flow line
abbrev pub next_played : Played → ℕ → NextLine → Played
next_played p number (Whole raw more) = line_played p number raw
next_played p number (Last raw) = last_played p number raw

abbrev pub flowed : List ℕ → Lines → Played
flowed key l = next_played (begun key l) (length l.front + 2) l.flow

-- the station accepts the upload: it has no operation, a PING number is left, and the plan fits
pub record Accepts (s : WorldState) (u : Upload) : Type 0 where
  pub index : ℕ
  pub station : StationSide
  pub found : slice_get s.nodes index ≡ Some (Station station)
  pub named : node_name (Station station) ≡ u.station
  pub accepted : upload_refusal station.core (number_of u.kind) u.plan ≡ None

-- at the drone no upload of another stream is open
pub record IsFree (s : WorldState) (u : Upload) : Type 0 where
  pub index : ℕ
  pub drone : DroneSide
  pub found : slice_get s.nodes index ≡ Some (Drone drone)
  pub named : node_name (Drone drone) ≡ u.drone
  pub free : is_other drone.core.upload (stream_of u.station) ≡ false

-- a drone that has started again admits what is later than its low bound: the station has admitted a frame of it that
-- it sent since, and so one above that bound
abbrev pub HasHeard : Option ℕ → Option ℕ → Type 0
HasHeard None last = Unit {0}
HasHeard (Some low) None = ⊥
HasHeard (Some low) (Some last) = low < last

-- an accepted upload of a valid plan to a free drone, which the station has heard, and whose flow line is long enough.
-- Up to that line the scenario wasn't stopped, neither by a line nor by a limit
pub record IsUncontended (key : List ℕ) (ended : Bool) (bytes : List ℕ) (l : Lines) (u : Upload) : Type 0 where
  pub lines : HaveLines ended bytes l.front l.begin l.flow
  pub front_done : (before key l).stop ≡ None
  pub begin_done : (begun key l).stop ≡ None
  pub flow_done : (flowed key l).stop ≡ None
  pub begins : line_of (without_cr l.begin) ≡ Begin u.station u.drone u.kind
  pub plan_is : (before key l).state.draft ≡ u.plan
  pub valid : IsValid (number_of u.kind) u.plan
  pub accepts : Accepts (before key l).state u
  pub is_free : IsFree (before key l).state u
  pub heard : HasHeard (low_of is_free.drone.link.history) (last_of (stream_of u.drone) accepts.station.link.history)
  pub frames : ℕ
  pub flows : line_of (text_of l.flow) ≡ Flow frames
  pub enough : 2 * length u.plan + 6 + drones_in (before key l).state.nodes ≤ frames

-- among these events the drone installs the plan, and after that its station reports that it is installed
pub record Installs (u : Upload) (events : List Event) : Type 0 where
  pub earlier : List Event
  pub between : List Event
  pub later : List Event
  pub is : events ≡ earlier ++ Installed u.drone (number_of u.kind) u.plan u.station
      ∷ (between ++ Ended u.station Told_installed ∷ later)

-- so it is within the flow line, whose events come among those of the whole scenario
pub record IsInstalled (key : List ℕ) (ended : Bool) (bytes : List ℕ) (l : Lines) (u : Upload) : Type 0 where
  pub events : List Event
  pub within : (flowed key l).events ≡ (begun key l).events ++ events
  pub installs : Installs u events
  pub later : List Event
  pub whole : (played key ended bytes).events ≡ (begun key l).events ++ (events ++ later)
