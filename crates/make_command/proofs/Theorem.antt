-- The main theorem holds of each generated scenario.
use Rattle.std.proofs.Common.{ℕ, true}
use Rattle.command_inputs.specs.KeyText.{default_key}
use Rattle.fleet_theorem.proofs.Theorem.{main_theorem}
use Rattle.scenario_maker.specs.Generator.{scenario_text}
use Rattle.scenario_maker.proofs.Generated.{generated_authentic, generated_done}
use Rattle.make_command.specs.Theorem.{GeneratedTheorem}

pub generated_theorem : (number : ℕ) → GeneratedTheorem number
generated_theorem number = record {
  done = generated_done number;
  authentic = generated_authentic number;
  theorem = main_theorem default_key true (scenario_text number) (generated_authentic number);
}
