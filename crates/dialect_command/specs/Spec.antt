-- What is done with the bytes of definitions, by `dialect` and by other commands, and what `dialect` writes without
-- any.
use Rattle.std.specs.Prelude.{ℕ, nat_lt, Bool, true, false, if◌then◌else◌, List, [], length, Option, Some, None, Ok}
use Rattle.std.specs.Prelude.{Err}
use Rattle.std.specs.declared.result.Result.{Result}
use Rattle.field_layout.specs.Definition.{Definition}
use Rattle.dialect.specs.declared.faults.DialectFault.{DialectFault}
use Rattle.dialect.specs.declared.faults.DialectFault.TheVariants.{NotJson, Shape, BadType, BadName, TwiceId}
use Rattle.dialect.specs.declared.faults.DialectFault.TheVariants.{TwiceName, Layout, TooMany, NoMemory}
use Rattle.dialect.specs.Grammar.{definitions_of}
use Rattle.mav_profile.specs.Profile.{profile_definitions}
use Rattle.mav_text.specs.LayoutText.{dialect_text}
use Rattle.run_status.specs.declared.input_errors.Place.TheVariants.{Definitions}
use Rattle.run_status.specs.declared.input_errors.Reason.{Reason}
use Rattle.run_status.specs.declared.input_errors.Reason.TheVariants.{Json, Shape as IsShape, FieldType, Name}
use Rattle.run_status.specs.declared.input_errors.Reason.TheVariants.{TwiceId as IsTwiceId, TwiceName as IsTwiceName}
use Rattle.run_status.specs.declared.input_errors.Reason.TheVariants.{Layout as IsLayout, TooMany as AreTooMany}
use Rattle.run_status.specs.declared.input_errors.Bound.TheVariants.{DefinitionBytes}
use Rattle.run_status.specs.declared.input_errors.InputError.{InputError}
use Rattle.run_status.specs.declared.input_errors.InputError.TheVariants.{Bad, AtLimit}
use Rattle.run_status.specs.Runs.{CommandSpec}

-- the most bytes of definitions
abbrev pub most_definition_bytes : ℕ
most_definition_bytes = 16777216

-- a fault of definitions, as it is reported; no text has the fault that there is no memory
abbrev pub told_reason : DialectFault → Reason
told_reason NotJson = Json
told_reason (Shape at) = IsShape
told_reason (BadType at) = FieldType
told_reason (BadName at) = Name
told_reason (TwiceId at) = IsTwiceId
told_reason (TwiceName at) = IsTwiceName
told_reason (Layout at fault) = IsLayout
told_reason TooMany = AreTooMany
told_reason NoMemory = Json

-- why a text is rejected as definitions, if it is
abbrev pub refusal_of : Result (List Definition) DialectFault → Option InputError
refusal_of (Ok defs) = None
refusal_of (Err fault) = Some (Bad Definitions (told_reason fault))

-- the text of definitions
abbrev pub text_of : Result (List Definition) DialectFault → List ℕ
text_of (Ok defs) = dialect_text defs
text_of (Err fault) = []

-- too many bytes stop a run at once, and a fault once the input ended
abbrev pub stop_at : Bool → List ℕ → Option InputError
stop_at true bytes = refusal_of (definitions_of bytes)
stop_at false bytes = None

-- definitions are read, and this is written after them
abbrev pub reading : (List ℕ → List ℕ) → CommandSpec
reading closing = record {
  stop = λ ended bytes. if nat_lt most_definition_bytes (length bytes) then Some (AtLimit DefinitionBytes)
      else stop_at ended bytes;
  report = λ ended bytes. [];
  closing = closing;
}

-- the layouts are written at the end, in the order read
abbrev pub dialect_spec : CommandSpec
dialect_spec = reading (λ bytes. text_of (definitions_of bytes))

-- nothing is written of definitions that are read for another command
abbrev pub definitions_spec : CommandSpec
definitions_spec = reading (λ bytes. [])

-- without definitions those of the profile are written, and nothing is read
abbrev pub telling : List Definition → CommandSpec
telling defs = record {
  stop = λ ended bytes. None;
  report = λ ended bytes. [];
  closing = λ bytes. dialect_text defs;
}

abbrev pub profile_spec : CommandSpec
profile_spec = telling profile_definitions
