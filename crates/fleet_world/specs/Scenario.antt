-- A scenario's bytes as lines, and what the lines lead to: the state, the report, and why it stopped.
use Rattle.std.specs.Prelude.{ℕ, ◌+◌, nat_lt, Bool, true, false, if◌then◌else◌, List, [], ◌∷◌, ◌++◌, length, Option}
use Rattle.std.specs.Prelude.{Some, None, Ok, Err}
use Rattle.std.specs.declared.result.Result.{Result}
use Rattle.scenario_lines.specs.declared.faults.Reason.{Reason}
use Rattle.scenario_lines.specs.declared.faults.Reason.TheVariants.{Long}
use Rattle.scenario_lines.specs.FileLines.{most_lines, whole_lines, unfinished, without_cr}
use Rattle.scenario_lines.specs.Grammar.{line_of, most_line_bytes}
use Rattle.scenario_lines.specs.Reasons.{reason_against}
use Rattle.fleet_report.specs.Events.{Event, events_text}
use Rattle.fleet_world.specs.WorldState.{WorldState, empty_state, context_of}
use Rattle.fleet_world.specs.Steps.{Step, StepError, after_line, closing_text}

-- why a scenario stops before its end
pub data ScenarioError : Type 0 where
  Bad : (line : ℕ) (reason : Reason) → ScenarioError
  Too_many_lines : ScenarioError
  Not_done : (error : StepError) → ScenarioError

pub record Played : Type 0 where
  pub state : WorldState
  pub events : List Event
  pub stop : Option ScenarioError

-- line `number`, whose bytes are `text`: what happened up to it, and then its own step
abbrev pub stopped : Played → ScenarioError → Played
stopped p stop = record p { stop = Some stop }

abbrev pub goes_on : Played → Result Step StepError → Played
goes_on p (Ok t) = record { state = t.state; events = p.events ++ t.events; stop = None }
goes_on p (Err error) = stopped p (Not_done error)

abbrev pub judged : Played → ℕ → List ℕ → Option Reason → Played
judged p number text (Some reason) = stopped p (Bad number reason)
judged p number text None = goes_on p (after_line p.state (line_of text))

-- line `number`, with its CR: it is done once it is whole
abbrev pub line_played : Played → ℕ → List ℕ → Played
line_played p number raw =
    if nat_lt most_lines number then stopped p Too_many_lines
    else if nat_lt most_line_bytes (length raw) then stopped p (Bad number Long)
    else judged p number (without_cr raw) (reason_against (context_of p.state) (without_cr raw))

-- the lines from `number` on, up to the first at which the scenario stops
abbrev pub unless_stopped : Option ScenarioError → Played → Played → Played
unless_stopped None p next = next
unless_stopped (Some stop) p next = p

abbrev pub lines_played : Played → ℕ → List (List ℕ) → Played
lines_played p number [] = p
lines_played p number (raw ∷ more) = unless_stopped p.stop p
    (lines_played (line_played p number raw) (number + 1) more)

-- under a key, which all nodes have
abbrev pub at_start : List ℕ → Played
at_start key = record { state = empty_state key; events = []; stop = None }

-- a last line without LF keeps its CR, and counts if it isn't empty
abbrev pub last_played : Played → ℕ → List ℕ → Played
last_played p number [] = p
last_played p number (b ∷ bs) =
    if nat_lt most_lines number then stopped p Too_many_lines
    else if nat_lt most_line_bytes (length (b ∷ bs)) then stopped p (Bad number Long)
    else judged p number (b ∷ bs) (reason_against (context_of p.state) (b ∷ bs))

-- an unfinished line stops a scenario as soon as it is too long
abbrev pub part_played : Played → ℕ → List ℕ → Played
part_played p number part =
    if nat_lt most_line_bytes (length part)
    then (if nat_lt most_lines number then stopped p Too_many_lines else stopped p (Bad number Long))
    else p

-- what the bytes that were taken lead to; `ended` says whether the input ended after them
abbrev pub rest_played : Bool → Played → ℕ → List ℕ → Played
rest_played true p number rest = last_played p number rest
rest_played false p number rest = part_played p number rest

abbrev pub played : List ℕ → Bool → List ℕ → Played
played key ended bytes =
    let lines = lines_played (at_start key) 1 (whole_lines bytes) in
    unless_stopped lines.stop lines (rest_played ended lines (length (whole_lines bytes) + 1) (unfinished bytes))

-- the report of what was played, and that of a whole scenario with its closing plans; `frames` says whether it prints
-- the frames' bytes
abbrev pub report_of : Bool → Played → List ℕ
report_of frames p = events_text frames p.events

abbrev pub whole_report : Bool → Played → List ℕ
whole_report frames p = events_text frames p.events ++ closing_text p.state.nodes
