-- What is read of the definitions that a line names, or doesn't name.
use Rattle.std.specs.Prelude.{◌≡◌, ◌⊎◌, Bool, true, false, List}
use Rattle.field_layout.specs.Definition.{Definition}
use Rattle.mav_profile.specs.Profile.{profile_definitions}
use Rattle.run_status.specs.Runs.{CommandSpec}
use Rattle.run_status.specs.Seen.{Input}
use Rattle.dialect_command.specs.Reads.{Holds}
use Rattle.dialect_command.specs.Spec.{definitions_spec}

-- definitions that are named are read: the run halts at them, nothing is written of them, and the main input isn't
-- read; or it goes on with them; without them the profile is used
abbrev pub WithDefinitions : Bool → (CommandSpec → Input → Type 0) → (halted others : Type 0) → Input
    → (List Definition → Type 0) → Type 0
WithDefinitions false runs halted others defs next = next profile_definitions
WithDefinitions true runs halted others defs next =
    (runs definitions_spec defs × halted × others)
    ⊎ ((ds : List Definition) × Holds defs.spent defs.left_before defs.left_after ds × next ds)

-- the definitions that were read, or those of the profile
abbrev pub KnownIs : Bool → Input → List Definition → Type 0
KnownIs false defs ds = (ds ≡ profile_definitions) × defs.unread
KnownIs true defs ds = Holds defs.spent defs.left_before defs.left_after ds
