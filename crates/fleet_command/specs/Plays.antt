-- A scenario that is played byte by byte: what the bytes to come do, after a line that is held unfinished.
use Rattle.std.specs.Prelude.{◌≡◌, ℕ, ◌-◌, ◌*◌, nat_lt, Bool, if◌then◌else◌, List, ◌++◌, length, Option, Some, None}
use Rattle.std.specs.Prelude.{Ok, Err, option_map}
use Rattle.std.specs.declared.result.Result.{Result}
use Rattle.std.specs.Io.KnownBytes.{append_known}
use Rattle.mav_ports.specs.Puts.{SentPrefix}
use Rattle.fleet_world.specs.WorldView.{WorldView, IsState}
use Rattle.scenario_lines.specs.declared.faults.Reason.TheVariants.{Long}
use Rattle.scenario_lines.specs.Reasons.{reason_against}
use Rattle.fleet_world.specs.WorldState.{context_of}
use Rattle.fleet_world.specs.Scenario.{whole_report, Played, ScenarioError, Bad, Too_many_lines, stopped, judged}
use Rattle.fleet_world.specs.Scenario.{played, report_of}
use Rattle.scenario_lines.specs.FileLines.{most_lines}
use Rattle.command_inputs.specs.LineRules.{LineRules}
use Rattle.command_inputs.specs.ByteByByte.{reads}
use Rattle.run_status.specs.declared.run_ends.RunEnd.{RunEnd}
use Rattle.run_status.specs.declared.run_ends.RunEnd.TheVariants.{Usage, Stopped, ReadFault, WriteFault, NoMemory}
use Rattle.run_status.specs.declared.run_ends.RunEnd.TheVariants.{TurnsSpent, Live}
use Rattle.run_status.specs.declared.input_errors.InputError.{InputError}
use Rattle.mav_nodes.specs.declared.faults.NodeFault.TheVariants.{StampsSpent as NoTimestamp, Store as NodeStore}
use Rattle.mav_nodes.specs.declared.faults.NodeFault.TheVariants.{NoMemory as NoNodeMemory}
use Rattle.fleet_world.specs.declared.faults.WorldFault.{WorldFault}
use Rattle.fleet_world.specs.declared.faults.WorldFault.TheVariants.{Limit, Node, NoMemory as NoWorldMemory}
use Rattle.fleet_world.specs.Steps.{At_limit, Stamps_spent}
use Rattle.fleet_command.specs.Spec.{reported_step_error, reported_error}

-- what the lines of a scenario do
abbrev pub scenario_rules : LineRules Played ScenarioError
scenario_rules = record {
  stop = λ p. p.stop;
  text = λ p number text. judged p number text (reason_against (context_of p.state) text);
  long = λ p number. stopped p (Bad number Long);
  many = λ p. stopped p Too_many_lines;
}

-- line `number` is held unfinished, and these bytes follow; `ended` says whether the input ended after them
abbrev pub plays : Bool → Played → ℕ → List ℕ → List ℕ → Played
plays ended p number part bytes = reads scenario_rules ended p number part bytes

-- a scenario goes on in this world, and its report was written after what was sent before; `frames` says whether it
-- prints frames whole
pub record Holds (frames : Bool) (p : Played) (world : WorldView) (before now : Option (List ℕ)) : Type 0 where
  pub going : p.stop ≡ None
  pub here : IsState p.state frames world
  pub sent : now ≡ append_known before (report_of frames p)

-- these bytes were taken and played under a key, up to the line that is held
pub record Reading (key : List ℕ) (frames : Bool) (taken : List ℕ) (world : WorldView) (number : ℕ) (part : List ℕ)
    (before now : Option (List ℕ)) : Type 0 where
  pub soFar : Played
  pub holds : Holds frames soFar world before now
  pub onwards : (ended : Bool) (rest : List ℕ) → played key ended (taken ++ rest) ≡ plays ended soFar number part rest

-- a scenario stopped, and its report was written
abbrev pub StoppedBy : Bool → InputError → Played → Option (List ℕ) → Option (List ℕ) → Type 0
StoppedBy frames stop q before now = (option_map reported_error q.stop ≡ Some stop)
    × (now ≡ append_known before (report_of frames q))

-- what a run that halts leaves of a scenario that leads to `q`: it stopped there, or a prefix of this text was written
abbrev pub HaltedAt : Bool → RunEnd → Played → List ℕ → Option (List ℕ) → Option (List ℕ) → Type 0
HaltedAt frames Usage q text before now = ⊥
HaltedAt frames (Stopped stop) q text before now = StoppedBy frames stop q before now
HaltedAt frames ReadFault q text before now = ⊥
HaltedAt frames WriteFault q text before now = SentPrefix before now text
HaltedAt frames NoMemory q text before now = SentPrefix before now text
HaltedAt frames TurnsSpent q text before now = ⊥
HaltedAt frames (Live end) q text before now = ⊥

-- a step led to `q`, or halted on the way there
abbrev pub Leads : {T : Type 0} → Bool → Result T RunEnd → Played → WorldView → Option (List ℕ) → Option (List ℕ)
    → Type 0
Leads frames (Ok done) q world before now = Holds frames q world before now
Leads frames (Err run_end) q world before now = HaltedAt frames run_end q (report_of frames q) before now

-- the most bytes that may still be taken before the scenario stops
abbrev pub budget : ℕ → List ℕ → ℕ
budget number part = 4097 * (100002 - number) - length part

-- why line `number` ends a run as soon as it is too long
abbrev pub long_line_end : ℕ → RunEnd
long_line_end number = Stopped (reported_error (if nat_lt most_lines number then Too_many_lines else Bad number Long))

-- the scenario went to its end, and the closing plans were written
abbrev pub Finished : Bool → Played → Option (List ℕ) → Option (List ℕ) → Type 0
Finished frames q before now = (q.stop ≡ None) × (now ≡ append_known before (whole_report frames q))

-- how a line that the world doesn't do ends a run
abbrev pub FailsAs : WorldFault → RunEnd → Type 0
FailsAs (Limit limit) run_end = run_end ≡ Stopped (reported_step_error (At_limit limit))
FailsAs (Node NoTimestamp) run_end = run_end ≡ Stopped (reported_step_error Stamps_spent)
FailsAs (Node NodeStore) run_end = run_end ≡ NoMemory  -- the stores of a scenario never fail
FailsAs (Node NoNodeMemory) run_end = run_end ≡ NoMemory
FailsAs NoWorldMemory run_end = run_end ≡ NoMemory
