-- How the reading of definitions ends.
use Rattle.std.specs.Prelude.{◌≡◌, ◌<◌, ◌≤◌, ◌+◌, ◌-◌, ◌^◌, ℕ, Bool, List, length, Option, Some, Ok, IsTrue}
use Rattle.std.specs.Io.KnownBytes.{prepend_known}
use Rattle.mav_ports.specs.Counts.{Rose}
use Rattle.field_layout.specs.Definition.{Definition}
use Rattle.dialect.specs.Grammar.{definitions_of}
use Rattle.run_status.specs.declared.run_ends.RunEnd.{RunEnd}
use Rattle.run_status.specs.declared.run_ends.RunEnd.TheVariants.{Stopped, NoMemory}
use Rattle.run_status.specs.declared.input_errors.Place.TheVariants.{Definitions}
use Rattle.run_status.specs.declared.input_errors.InputError.TheVariants.{Bad}
use Rattle.dialect.specs.declared.faults.DialectFault.{DialectFault}
use Rattle.dialect.specs.declared.faults.DialectFault.TheVariants.{NoMemory as NoMemoryToRead}
use Rattle.run_status.specs.Runs.{PortOutcome, Cause}
use Rattle.dialect_command.specs.Spec.{told_reason, definitions_spec, most_definition_bytes}

-- the outcome at the ports if only an input is called
abbrev pub of_input : Type 0 → ℕ → ℕ → ℕ → ℕ → PortOutcome
of_input spent faults_before faults_after idles_before idles_after = record {
  spent = spent;
  failed = Rose faults_before faults_after;
  idled = (idles_after < 2 ^ 64 - 1 → idles_before + 1000000 ≤ idles_after);
  refused = ⊥;
}

-- an input was taken to its end, and it holds these definitions
pub record Holds (spent : Type 0) (left_before left_after : Option (List ℕ)) (defs : List Definition) : Type 0 where
  pub taken : List ℕ
  pub took : left_before ≡ prepend_known taken left_after
  pub at_end : spent
  pub fits : length taken ≤ most_definition_bytes
  pub read : definitions_of taken ≡ Ok defs

-- the reading of an input halted: the bytes taken from it, and the cause
pub record Halts (o : PortOutcome) (left_before left_after : Option (List ℕ)) (halt : RunEnd) : Type 0 where
  pub taken : List ℕ
  pub ended : Bool
  pub took : left_before ≡ prepend_known taken left_after
  pub at_end : IsTrue ended → o.spent
  pub cause : Cause definitions_spec (Some halt) o ended taken

-- the halt by a fault of the definitions
abbrev pub told : DialectFault → RunEnd
told fault = Stopped (Bad Definitions (told_reason fault))

-- how a fault halts a run: it is reported, or there was no memory
abbrev pub halt_of : DialectFault → RunEnd
halt_of NoMemoryToRead = NoMemory
halt_of fault = told fault
