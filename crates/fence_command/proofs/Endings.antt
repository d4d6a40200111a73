-- How a run ends that reads a file.
use Rattle.std.proofs.Common.{◌≡◌, ℕ, List, false, refl, subst, Option, Some}
use Rattle.run_status.specs.declared.run_ends.RunEnd.{RunEnd}
use Rattle.run_status.specs.Runs.{port_outcome, RunBeforeStatus}
use Rattle.command_inputs.specs.Takers.{HaltsLines, HoldsLines}
use Rattle.command_inputs.proofs.LineEndings.{Follows, halts_before_status}
use Rattle.fence_command.specs.FenceFile.{FileState, empty_file, line_says}
use Rattle.fence_command.specs.Spec.{fence_read, fence_spec, HoldsState}
use Rattle.fence_command.proofs.Stays.{stop_some, stop_open}

pub holds_state : (start file : FileState) (spent : Type 0) (lb la : Option (List ℕ)) → start ≡ empty_file → HoldsLines line_says start spent lb la file → HoldsState spent lb la file
holds_state start file spent lb la empty h = subst (λ (first : FileState). HoldsLines line_says first spent lb la file) empty h

pub file_halts : (start : FileState) (spent : Type 0) (fb fa ib ia refusals : ℕ) (lb la sent : Option (List ℕ)) (run_end : RunEnd) → start ≡ empty_file → HaltsLines line_says start (port_outcome spent fb fa ib ia 0 0) lb la run_end
    → RunBeforeStatus fence_spec (port_outcome spent fb fa ib ia refusals refusals) lb la sent sent (Some run_end)
file_halts start spent fb fa ib ia refusals lb la sent run_end empty h =
    let follows : Follows fence_spec line_says empty_file = record {
      stops = λ ended taken stop e. stop_some ended (fence_read ended taken) stop e;
      goes_on = λ taken e. stop_open (fence_read false taken) e;
      silent = λ ended taken. refl;
    } in
    halts_before_status fence_spec line_says empty_file follows spent fb fa ib ia refusals lb la sent run_end
    (subst (λ (first : FileState). HaltsLines line_says first (port_outcome spent fb fa ib ia 0 0) lb la run_end) empty h)
