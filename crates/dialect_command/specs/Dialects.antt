-- What a line of `dialect` does.
use Rattle.std.specs.Prelude.{Bool, true, false}
use Rattle.run_status.specs.Runs.{CommandSpec}
use Rattle.dialect_command.specs.Spec.{dialect_spec, profile_spec}
use Rattle.run_status.specs.Seen.{Input, no_input}

-- `dialect --defs F`, over the definitions, and `dialect`, over no input
abbrev pub Dialects : (named_defs : Bool) → (CommandSpec → Input → Type 0) → Input → Type 0
Dialects true runs defs = runs dialect_spec defs
Dialects false runs defs = runs profile_spec no_input
