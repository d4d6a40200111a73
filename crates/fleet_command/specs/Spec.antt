-- What `fleet` does with the bytes of a scenario.
use Rattle.std.specs.Prelude.{ℕ, Bool, true, List, option_map}
use Rattle.fleet_world.specs.declared.faults.Bound.{Bound}
use Rattle.fleet_world.specs.declared.faults.Bound.TheVariants.{Frames as MostFrames, Drones as MostDrones}
use Rattle.fleet_world.specs.declared.faults.Bound.TheVariants.{Stations as MostStations, Restarts as MostRestarts}
use Rattle.fleet_world.specs.Steps.{StepError, At_limit, Stamps_spent, closing_text}
use Rattle.fleet_world.specs.Scenario.{ScenarioError, Bad as BadLine, Too_many_lines, Not_done, played, report_of}
use Rattle.run_status.specs.declared.input_errors.Bound.{Bound as StatusBound}
use Rattle.run_status.specs.declared.input_errors.Bound.TheVariants.{Lines, Frames, Drones, Stations, Restarts}
use Rattle.run_status.specs.declared.input_errors.InputError.{InputError}
use Rattle.run_status.specs.declared.input_errors.InputError.TheVariants.{AtLimit, StampsSpent}
use Rattle.run_status.specs.Runs.{CommandSpec}
use Rattle.command_inputs.specs.Takers.{bad_line}

-- a bound of the world, as a run's status has it
abbrev pub reported_bound : Bound → StatusBound
reported_bound MostFrames = Frames
reported_bound MostDrones = Drones
reported_bound MostStations = Stations
reported_bound MostRestarts = Restarts

-- why a line isn't done
abbrev pub reported_step_error : StepError → InputError
reported_step_error (At_limit limit) = AtLimit (reported_bound limit)
reported_step_error Stamps_spent = StampsSpent

-- why a scenario stops
abbrev pub reported_error : ScenarioError → InputError
reported_error (BadLine line reason) = bad_line line reason
reported_error Too_many_lines = AtLimit Lines
reported_error (Not_done run_end) = reported_step_error run_end

-- under a key, the lines are played in their order, and the plans are reported at the end; `frames` says whether the
-- report prints frames whole
abbrev pub fleet_spec : List ℕ → Bool → CommandSpec
fleet_spec key frames = record {
  stop = λ ended bytes. option_map reported_error (played key ended bytes).stop;
  report = λ ended bytes. report_of frames (played key ended bytes);
  closing = λ bytes. closing_text (played key true bytes).state.nodes;
}
