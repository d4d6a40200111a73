-- How a run over a scenario comes to its end.
use Rattle.std.proofs.Common.{◌≡◌, ◌∙◌, ◌≤◌, ℕ, Bool, true, false, List, refl, sym, ap, Option, option_map, Some, Result, Ok, Err, IsTrue, OnOk, IfErr, IsErrOf, length}
use Rattle.std.specs.Result.{result_err}
use Rattle.std.specs.Io.KnownBytes.{append_known, prepend_known}
use Rattle.fleet_world.specs.WorldView.{WorldView}
use Rattle.fleet_world.specs.Scenario.{Played, played, report_of, whole_report}
use Rattle.run_status.specs.declared.run_ends.RunEnd.{RunEnd}
use Rattle.run_status.specs.declared.run_ends.RunEnd.TheVariants.{Usage, Stopped, ReadFault, WriteFault, NoMemory, TurnsSpent, Live}
use Rattle.run_status.specs.Runs.{PortOutcome, text_so_far, RunBeforeStatus}
use Rattle.fleet_command.specs.Plays.{Reading, HaltedAt, Finished}
use Rattle.fleet_command.specs.Spec.{reported_error, fleet_spec}
use Rattle.fleet_command.proofs.Steps.{reading_cut}

module _ (key : List ℕ) (frames : Bool) where
  -- a scenario halted
  pub before_status_halt : (o : PortOutcome) (lb la sb sa : Option (List ℕ)) (ended : Bool) (taken : List ℕ) (run_end : RunEnd) → lb ≡ prepend_known taken la → (IsTrue ended → o.spent) → (run_end ≡ WriteFault → o.refused) → HaltedAt frames run_end (played key ended taken) (text_so_far (fleet_spec key frames) ended taken) sb sa → RunBeforeStatus (fleet_spec key frames) o lb la sb sa (Some run_end)
  before_status_halt o lb la sb sa ended taken Usage took at_end refused never = absurd never
  before_status_halt o lb la sb sa ended taken (Stopped stop) took at_end refused h = record { taken = taken; ended = ended; took = took; at_end = at_end; cause = h.0; wrote = h.1 }
  before_status_halt o lb la sb sa ended taken ReadFault took at_end refused never = absurd never
  before_status_halt o lb la sb sa ended taken WriteFault took at_end refused h = record { taken = taken; ended = ended; took = took; at_end = at_end; cause = refused refl; wrote = h }
  before_status_halt o lb la sb sa ended taken NoMemory took at_end refused h = record { taken = taken; ended = ended; took = took; at_end = at_end; cause = tt; wrote = h }
  before_status_halt o lb la sb sa ended taken TurnsSpent took at_end refused never = absurd never
  before_status_halt o lb la sb sa ended taken (Live end) took at_end refused never = absurd never

  -- the input ended
  pub before_status_end : (o : PortOutcome) (lb la sb sa : Option (List ℕ)) (taken : List ℕ) (r : Result (Unit {0}) RunEnd) → lb ≡ prepend_known taken la → o.spent → (IsErrOf r WriteFault → o.refused) → OnOk r (Finished frames (played key true taken) sb sa) → IfErr r (λ run_end. HaltedAt frames run_end (played key true taken) (whole_report frames (played key true taken)) sb sa) → RunBeforeStatus (fleet_spec key frames) o lb la sb sa (result_err r)
  before_status_end o lb la sb sa taken (Ok x) took spent refused done halted = record { taken = taken; ended = true; took = took; at_end = λ e. spent; cause = (refl, ap (option_map reported_error) done.0); wrote = done.1 }
  before_status_end o lb la sb sa taken (Err run_end) took spent refused done halted = before_status_halt o lb la sb sa true taken run_end took (λ e. spent) (λ e. refused (ap Err e)) halted

  -- a read failed, or the input was idle for too long
  pub before_status_fault : (o : PortOutcome) (lb la sb sa : Option (List ℕ)) (taken : List ℕ) (world : WorldView) (number : ℕ) (part : List ℕ) → lb ≡ prepend_known taken la → Reading key frames taken world number part sb sa → length part ≤ 4096 → o.failed → RunBeforeStatus (fleet_spec key frames) o lb la sb sa (Some ReadFault)
  before_status_fault o lb la sb sa taken world number part took r short failed =
      let here = reading_cut key frames taken world number part sb sa r short in
      record { taken = taken; ended = false; took = took; at_end = λ never. absurd (cc never); cause = (failed, refl, ap (λ (p : Played). option_map reported_error p.stop) here ∙ ap (option_map reported_error) r.holds.going); wrote = r.holds.sent ∙ ap (λ p. append_known sb (report_of frames p)) (sym here) }

  pub before_status_idle : (o : PortOutcome) (lb la sb sa : Option (List ℕ)) (taken : List ℕ) (world : WorldView) (number : ℕ) (part : List ℕ) → lb ≡ prepend_known taken la → Reading key frames taken world number part sb sa → length part ≤ 4096 → o.idled → RunBeforeStatus (fleet_spec key frames) o lb la sb sa (Some TurnsSpent)
  before_status_idle o lb la sb sa taken world number part took r short idled =
      let here = reading_cut key frames taken world number part sb sa r short in
      record { taken = taken; ended = false; took = took; at_end = λ never. absurd (cc never); cause = (idled, refl, ap (λ (p : Played). option_map reported_error p.stop) here ∙ ap (option_map reported_error) r.holds.going); wrote = r.holds.sent ∙ ap (λ p. append_known sb (report_of frames p)) (sym here) }
