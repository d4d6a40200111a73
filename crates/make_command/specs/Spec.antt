-- What `make` writes of a number.
use Rattle.std.specs.Prelude.{ℕ, false, List, [], None}
use Rattle.fleet_world.specs.Scenario.{whole_report}
use Rattle.run_status.specs.Runs.{CommandSpec}
use Rattle.scenario_maker.specs.Generated.{generated}
use Rattle.scenario_maker.specs.Sums.{sums_text}

-- the sums of the report of the generated scenario
abbrev pub make_text : ℕ → List ℕ
make_text number = sums_text (whole_report false (generated number))

-- nothing is read and nothing stops a run; the sums are written
abbrev pub make_spec : ℕ → CommandSpec
make_spec number = record {
  stop = λ ended bytes. None;
  report = λ ended bytes. [];
  closing = λ bytes. make_text number;
}
