-- The text of the profile, computed from the definitions alone.
use Rattle.std.proofs.Common.{◌≡◌, [], true, refl}
use Rattle.std.specs.Fmt.{digits}
use Rattle.x25_check.specs.Check as check
use Rattle.run_status.specs.Runs.{output_of, end_of}
use Rattle.dialect_command.specs.Spec.{profile_spec}
use Rattle.dialect_command.specs.Examples.{profile_layouts}

pub profile_output : output_of profile_spec (end_of (profile_spec.stop true [])) true [] ≡ profile_layouts
unfolding digits check.after_byte
profile_output = refl
