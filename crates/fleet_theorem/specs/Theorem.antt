-- The main theorem of a run of `fleet`, over the bytes that it took and what it wrote.
use Rattle.std.specs.Prelude.{◌≡◌, ℕ, Bool, List, Option}
use Rattle.run_status.specs.declared.run_ends.RunEnd.{RunEnd}
use Rattle.run_status.specs.Endings.{code_of}
use Rattle.run_status.specs.Runs.{PortOutcome, Run}
use Rattle.fleet_world.specs.Scenario.{played}
use Rattle.fleet_world.specs.Authentic.{Authentic}
use Rattle.fleet_safety.specs.Actions.{actions_of}
use Rattle.fleet_safety.specs.Safe.{nodes_of, Safe}
use Rattle.fleet_safety.specs.Meaning.{LinesAreTrue}
use Rattle.fleet_liveness.specs.Uncontended.{Lines, Upload, IsUncontended, IsInstalled}
use Rattle.fleet_command_laws.specs.Once.{EachCommandOnce}
use Rattle.fleet_command_laws.specs.Accepted.{EachLineBegins}
use Rattle.fleet_command.specs.Spec.{fleet_spec}

-- what holds of a scenario's bytes under a key, whether their input ended after them or not, if its foreign bytes
-- bring no frame that verifies and wasn't sent
pub record MainTheorem (key : List ℕ) (ended : Bool) (bytes : List ℕ) : Type 0 where
  -- its actions, line by line and call by call, are an execution of the abstract mission store, and the report has
  -- exactly what that execution reports; after each action each drone's plan is the store's: empty, or exactly the
  -- plan of one upload, which was installed, and which is the draft of one `begin` line
  pub safe : Safe key bytes (played key ended bytes) (actions_of key ended bytes)
  -- and what the report says of uploads and downloads is true
  pub lines : LinesAreTrue (nodes_of (played key ended bytes).state.nodes) (played key ended bytes).events
      (actions_of key ended bytes)
  -- and each uncontended upload of a valid plan is installed and acknowledged within its flow line
  pub uploads : (lines : Lines) (upload : Upload) → IsUncontended key ended bytes lines upload
      → IsInstalled key ended bytes lines upload
  -- and between two starts each drone does at most one command of each `command` line, and those of a station in the
  -- order of its lines; a command that is given again is otherwise answered by the kept result
  pub commands : EachCommandOnce key ended bytes
  -- which are the lines that stations accepted
  pub accepted : EachLineBegins key ended bytes

-- one run: why it ended, the bytes that it took and what it wrote of them; and what holds of these bytes
pub record Carries (key : List ℕ) (frames : Bool) (o : PortOutcome)
    (left_before left_after sent_before sent_after : Option (List ℕ)) (code : ℕ) : Type 0 where
  pub end : Option RunEnd
  pub status : code ≡ code_of end
  pub run : Run (fleet_spec key frames) o left_before left_after sent_before sent_after end
  pub theorem : Authentic key run.ended run.taken → MainTheorem key run.ended run.taken
