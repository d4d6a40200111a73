-- A generated scenario, played.
use Rattle.std.specs.Prelude.{ℕ, true}
use Rattle.command_inputs.specs.KeyText.{default_key}
use Rattle.fleet_world.specs.Scenario.{Played, played}
use Rattle.scenario_maker.specs.Generator.{scenario_text}

-- as `fleet` plays it if no key is given
abbrev pub generated : ℕ → Played
generated number = played default_key true (scenario_text number)
