-- What holds of each generated scenario.
use Rattle.std.specs.Prelude.{ℕ, ◌≡◌, true, None}
use Rattle.command_inputs.specs.KeyText.{default_key}
use Rattle.fleet_world.specs.Authentic.{Authentic}
use Rattle.fleet_theorem.specs.Theorem.{MainTheorem}
use Rattle.scenario_maker.specs.Generator.{scenario_text}
use Rattle.scenario_maker.specs.Generated.{generated}

pub record GeneratedTheorem (number : ℕ) : Type 0 where
  -- it is played to its end: there is no reason against any of its lines, and it keeps to all limits
  pub done : (generated number).stop ≡ None
  -- it has no foreign bytes
  pub authentic : Authentic default_key true (scenario_text number)
  -- so what holds of every authentic scenario holds of it
  pub theorem : MainTheorem default_key true (scenario_text number)
