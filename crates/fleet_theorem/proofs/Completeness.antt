-- An authentic scenario of the grammar that keeps to the limits is played to its end.
use Rattle.std.proofs.Common.{◌≡◌, ◌≢◌, ◌∙◌, inl, inr, ℕ, Bool, true, List, refl, sym, ap, Option, Some, None, option_map}
use Rattle.std.specs.Io.KnownBytes.{append_known}
use Rattle.run_status.specs.declared.input_errors.InputError.{InputError}
use Rattle.run_status.specs.Endings.{code_of}
use Rattle.run_status.specs.Runs.{PortOutcome, Promises, end_of, output_of}
use Rattle.fleet_world.specs.Authentic.{Authentic}
use Rattle.fleet_world.specs.Steps.{At_limit, Stamps_spent}
use Rattle.fleet_world.specs.Scenario.{ScenarioError, Bad, Too_many_lines, Not_done, played}
use Rattle.fleet_invariants.proofs.Unspent.{none_spent}
use Rattle.fleet_command.specs.Spec.{reported_error, fleet_spec}
use Rattle.fleet_theorem.specs.Completeness.{IsPlayable, Completes}

-- nothing stops it
pub unstopped : (key bytes : List ℕ) → IsPlayable key bytes → Authentic key true bytes → (played key true bytes).stop ≡ None
unstopped key bytes playable authentic = by_stop (played key true bytes).stop refl
  where
    by_stop : (o : Option ScenarioError) → (played key true bytes).stop ≡ o → (played key true bytes).stop ≡ None
    by_stop None e = e
    by_stop (Some (Bad line reason)) e = absurd (playable.lines line reason e)
    by_stop (Some Too_many_lines) e = absurd (playable.few e)
    by_stop (Some (Not_done (At_limit limit))) e = absurd (playable.limits limit e)
    by_stop (Some (Not_done Stamps_spent)) e = absurd (none_spent key true bytes authentic e)

-- what nothing stops is playable
other_stop : (o : Option ScenarioError) (stop : ScenarioError) → o ≡ None → o ≢ Some stop
other_stop o stop going e = let wrong : None ≡ Some stop = sym going ∙ e in cc

pub playable : (key bytes : List ℕ) → (played key true bytes).stop ≡ None → IsPlayable key bytes
playable key bytes going = record {
  lines = λ line reason. other_stop _ (Bad line reason) going;
  few = other_stop _ Too_many_lines going;
  limits = λ limit. other_stop _ (Not_done (At_limit limit)) going;
}

pub completed : (key : List ℕ) (frames : Bool) (o : PortOutcome) (left_before left_after sent_before sent_after : Option (List ℕ)) (code : ℕ) → Promises (fleet_spec key frames) o left_before left_after sent_before sent_after code
    → Completes key frames o left_before sent_before sent_after code
completed key frames o left_before left_after sent_before sent_after code promises bytes reported can authentic sound =
    let going : (fleet_spec key frames).stop true bytes ≡ None = ap (option_map reported_error) (unstopped key bytes can authentic) in
    elim (promises.determined bytes reported sound.reads sound.gives) [
      | inl done ↦ inl (
        done.0 ∙ ap (λ (stop : Option InputError). code_of (end_of stop)) going,
        done.1 ∙ ap (λ (stop : Option InputError). append_known sent_before (output_of (fleet_spec key frames) (end_of stop) true bytes)) going,
      )
      | inr other ↦ elim other [
        | inl refused ↦ absurd (sound.writes (promises.write_fault refused).0)
        | inr memory ↦ inr memory
      ]
    ]
