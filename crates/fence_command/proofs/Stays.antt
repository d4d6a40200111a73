-- A file that stopped stays so, whatever follows.
use Rattle.std.proofs.Common.{◌≡◌, ◌∙◌, Bool, false, ◌++◌, refl, ap, Option, Some, None}
use Rattle.run_status.specs.declared.input_errors.InputError.{InputError}
use Rattle.run_status.specs.Runs.{Steady}
use Rattle.command_inputs.specs.Takers.{Read}
use Rattle.command_inputs.proofs.LineStays.{file_for_good}
use Rattle.fence_command.specs.FenceFile.{FileState, empty_file, line_says}
use Rattle.fence_command.specs.Spec.{stop_after, stop_of, fence_read, fence_spec}

-- what stopped the file stops a run
pub stop_some : (ended : Bool) (r : Read FileState) (stop : InputError) → r.stop ≡ Some stop → stop_of ended r ≡ Some stop
stop_some ended r stop e = ap (stop_after ended r.state) e

-- before the end nothing else does
pub stop_open : (r : Read FileState) → r.stop ≡ None → stop_of false r ≡ None
stop_open r e = ap (stop_after false r.state) e

at_line : (file : FileState) (found : Option InputError) (stop : InputError) → stop_after false file found ≡ Some stop → found ≡ Some stop
at_line file None stop e = absurd (cc)
at_line file (Some other) stop e = e

pub fence_steady : Steady fence_spec
fence_steady = record {
  stays = λ ended taken more stop e.
      let stops = at_line (fence_read false taken).state (fence_read false taken).stop stop e in
      (stop_some ended (fence_read ended (taken ++ more)) stop (ap (λ (r : Read FileState). r.stop) (file_for_good line_says empty_file ended taken more stop stops) ∙ stops), refl);
}
