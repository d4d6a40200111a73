-- What `fence` does with the bytes of a file.
use Rattle.std.specs.Prelude.{ℕ, Bool, true, false, not, ◌&&◌, nat_le, if◌then◌else◌, List, [], length, Option, Some}
use Rattle.std.specs.Prelude.{None, is_none}
use Rattle.plan_items.specs.declared.items.Item.{Item}
use Rattle.plan_items.specs.Kinds.{limit_of}
use Rattle.plan_items.specs.Validation.{plan_fault}
use Rattle.run_status.specs.declared.input_errors.Place.TheVariants.{Fence, Mission}
use Rattle.run_status.specs.declared.input_errors.Reason.TheVariants.{Plan}
use Rattle.run_status.specs.declared.input_errors.InputError.{InputError}
use Rattle.run_status.specs.declared.input_errors.InputError.TheVariants.{Bad}
use Rattle.run_status.specs.Runs.{CommandSpec}
use Rattle.command_inputs.specs.Takers.{Read, file_read, HoldsLines}
use Rattle.fence_command.specs.FenceFile.{FileState, empty_file, line_says}
use Rattle.fence_command.specs.declared.files.FenceFile.{FenceFile}
use Rattle.fence_command.specs.Files.{state_of}
use Rattle.fence_command.specs.FenceText.{fence_text}

-- the items are a valid plan of the kind with this number, or none
abbrev pub is_sound : ℕ → List Item → Bool
is_sound kind items = nat_le (length items) (limit_of kind) && is_none (plan_fault kind items)

-- `bad fence: plan` and then `bad mission: plan`
abbrev pub plans_stop : FileState → Option InputError
plans_stop f =
    if not (is_sound 1 f.fence) then Some (Bad Fence Plan)
    else if not (is_sound 0 f.mission) then Some (Bad Mission Plan)
    else None

-- the plans are looked at once the input ended
abbrev pub end_stop : Bool → FileState → Option InputError
end_stop true f = plans_stop f
end_stop false f = None

abbrev pub stop_after : Bool → FileState → Option InputError → Option InputError
stop_after ended f None = end_stop ended f
stop_after ended f (Some stop) = Some stop

abbrev pub stop_of : Bool → Read FileState → Option InputError
stop_of ended r = stop_after ended r.state r.stop

-- what the bytes that were taken give; `ended` says whether the input ended after them
abbrev pub fence_read : Bool → List ℕ → Read FileState
fence_read ended bytes = file_read line_says empty_file ended bytes

-- a file stops a run at its first bad line or at a plan that isn't sound; all is written once it was read to its end
abbrev pub fence_spec : CommandSpec
fence_spec = record {
  stop = λ ended bytes. stop_of ended (fence_read ended bytes);
  report = λ ended bytes. [];
  closing = λ bytes. fence_text (fence_read true bytes).state;
}

-- an input was taken to its end, and its bytes give exactly this file
abbrev pub HoldsState : Type 0 → (left_before left_after : Option (List ℕ)) → (file : FileState) → Type 0
HoldsState spent left_before left_after file = HoldsLines line_says empty_file spent left_before left_after file

abbrev pub HoldsFile : Type 0 → (left_before left_after : Option (List ℕ)) → (file : FenceFile) → Type 0
HoldsFile spent left_before left_after file = HoldsState spent left_before left_after (state_of file)
