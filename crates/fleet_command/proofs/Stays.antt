-- A scenario that stopped stays so, whatever follows.
use Rattle.std.proofs.Common.{◌≡◌, ◌∙◌, ℕ, Bool, false, List, ◌++◌, refl, ap, Option, Some, None, option_map}
use Rattle.fleet_world.specs.Scenario.{Played, ScenarioError, played, report_of}
use Rattle.run_status.specs.declared.input_errors.InputError.{InputError}
use Rattle.run_status.specs.Runs.{Steady}
use Rattle.fleet_command.specs.Spec.{reported_error, fleet_spec}
use Rattle.fleet_command.proofs.Grows.{played_for_good}

stays_at : (key : List ℕ) (ended : Bool) (taken more : List ℕ) (stop : InputError) (found : Option ScenarioError) → (played key false taken).stop ≡ found → option_map reported_error found ≡ Some stop → played key ended (taken ++ more) ≡ played key false taken
stays_at key ended taken more stop None is never = absurd (cc never)
stays_at key ended taken more stop (Some s) is e = played_for_good key ended taken more s is

pub fleet_steady : (key : List ℕ) (frames : Bool) → Steady (fleet_spec key frames)
fleet_steady key frames = record {
  stays = λ ended taken more stop e.
      let same = stays_at key ended taken more stop (played key false taken).stop refl e in
      (ap (λ (p : Played). option_map reported_error p.stop) same ∙ e, ap (report_of frames) same);
}
