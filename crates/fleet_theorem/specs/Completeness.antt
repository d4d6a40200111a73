-- Which scenarios are played to their end, and what a run over such a one gives.
use Rattle.std.specs.Prelude.{◌≡◌, ◌≢◌, ◌⊎◌, ℕ, Bool, true, List, Option, Some}
use Rattle.std.specs.Io.KnownBytes.{append_known}
use Rattle.scenario_lines.specs.declared.faults.Reason.{Reason}
use Rattle.fleet_world.specs.declared.faults.Bound.{Bound}
use Rattle.fleet_world.specs.Steps.{At_limit}
use Rattle.fleet_world.specs.Authentic.{Authentic}
use Rattle.fleet_world.specs.Scenario.{Bad, Too_many_lines, Not_done, played, whole_report}
use Rattle.run_status.specs.Runs.{PortOutcome}

-- a scenario of the grammar that keeps to the limits, played under a key
pub record IsPlayable (key : List ℕ) (bytes : List ℕ) : Type 0 where
  -- there is no reason against any of its lines, each read in the state before it
  pub lines : (line : ℕ) (reason : Reason) → (played key true bytes).stop ≢ Some (Bad line reason)
  -- the lines are not too many
  pub few : (played key true bytes).stop ≢ Some Too_many_lines
  -- nor are the frames, the drones or the stations
  pub limits : (limit : Bound) → (played key true bytes).stop ≢ Some (Not_done (At_limit limit))

-- no port failed: by their counts no read failed, nor did a write, and the input never gave nothing a million times in
-- a row
pub record NoFault (o : PortOutcome) : Type 0 where
  pub reads : ¬ o.failed
  pub gives : ¬ o.idled
  pub writes : ¬ o.refused

-- it is done and the whole report was written, or memory ran out
abbrev pub IsComplete : (key : List ℕ) (frames : Bool) (bytes : List ℕ) → (sent_before sent_after : Option (List ℕ))
    → (code : ℕ) → Type 0
IsComplete key frames bytes sent_before sent_after code =
    ((code ≡ 0) × (sent_after ≡ append_known sent_before (whole_report frames (played key true bytes)))) ⊎ (code ≡ 7)

-- completeness: if no port fails, an authentic scenario that can be played is played to its end
abbrev pub Completes : (key : List ℕ) (frames : Bool) (o : PortOutcome)
    → (left_before sent_before sent_after : Option (List ℕ)) → (code : ℕ) → Type 0
Completes key frames o left_before sent_before sent_after code =
    (bytes : List ℕ) → left_before ≡ Some bytes → IsPlayable key bytes → Authentic key true bytes → NoFault o
    → IsComplete key frames bytes sent_before sent_after code
