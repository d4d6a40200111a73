-- What `dialect` took and wrote, when it is done or stops.
use Rattle.std.specs.Prelude.{◌≡◌, ◌<◌, ◌≤◌, ℕ, List, length, Option, Err}
use Rattle.std.specs.Io.KnownBytes.{append_known, prepend_known}
use Rattle.field_layout.specs.Definition.{Definition}
use Rattle.dialect.specs.declared.faults.DialectFault.{DialectFault}
use Rattle.dialect.specs.Grammar.{definitions_of}
use Rattle.mav_text.specs.LayoutText.{dialect_text}
use Rattle.run_status.specs.declared.input_errors.Reason.{Reason}
use Rattle.dialect_command.specs.Spec.{told_reason, most_definition_bytes}
use Rattle.dialect_command.specs.Reads.{Holds}

-- what `dialect` wrote of the definitions that an input holds
pub record Told (spent : Type 0) (left_before left_after sent_before sent_after : Option (List ℕ)) : Type 0 where
  pub defs : List Definition
  pub holds : Holds spent left_before left_after defs
  pub sent : sent_after ≡ append_known sent_before (dialect_text defs)

-- the definitions that an input holds were rejected for this reason, and nothing was written
pub record Refused (reason : Reason) (spent : Type 0)
    (left_before left_after sent_before sent_after : Option (List ℕ)) : Type 0 where
  pub taken : List ℕ
  pub took : left_before ≡ prepend_known taken left_after
  pub at_end : spent
  pub fits : length taken ≤ most_definition_bytes
  pub fault : DialectFault
  pub is : definitions_of taken ≡ Err fault
  pub said : told_reason fault ≡ reason
  pub unsent : sent_after ≡ sent_before

-- more bytes were taken from an input than definitions may have, and nothing was written
pub record IsTooLong (left_before left_after sent_before sent_after : Option (List ℕ)) : Type 0 where
  pub taken : List ℕ
  pub took : left_before ≡ prepend_known taken left_after
  pub long : most_definition_bytes < length taken
  pub unsent : sent_after ≡ sent_before
