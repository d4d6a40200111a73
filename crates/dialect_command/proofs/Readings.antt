-- What was taken of an input of definitions if the reading of it halted.
use Rattle.std.proofs.Common.{◌≡◌, ◌≢◌, ◌∙◌, ◌<◌, ◌≤◌, ◌-◌, ℕ, true, false, List, [], ◌++◌, take, length, arith, refl, sym, subst, ap, Option, Some, Ok, Err}
use Rattle.std.proofs.lemmas.List.{length-append, length-take-le}
use Rattle.std.specs.Io.KnownBytes.{prepend_known}
use Rattle.mav_ports.proofs.Known.{prepend_known_nil}
use Rattle.dialect.specs.declared.faults.DialectFault.{DialectFault}
use Rattle.dialect.specs.declared.faults.DialectFault.TheVariants.{NotJson, Shape, BadType, BadName, TwiceId, TwiceName, Layout, TooMany, NoMemory as Unread}
use Rattle.field_layout.specs.Definition.{Definition}
use Rattle.dialect.specs.Grammar.{definitions_of}
use Rattle.run_status.specs.declared.run_ends.RunEnd.TheVariants.{Stopped, ReadFault, NoMemory, TurnsSpent}
use Rattle.run_status.specs.declared.input_errors.Place.TheVariants.{Definitions}
use Rattle.run_status.specs.declared.input_errors.Reason.{Reason}
use Rattle.run_status.specs.declared.input_errors.Reason.TheVariants.{Json, Shape as IsShape, FieldType, Name, TwiceId as IsTwiceId, TwiceName as IsTwiceName, Layout as IsLayout, TooMany as AreTooMany}
use Rattle.run_status.specs.declared.input_errors.Bound.TheVariants.{DefinitionBytes}
use Rattle.run_status.specs.declared.input_errors.InputError.TheVariants.{Bad, AtLimit}
use Rattle.run_status.specs.Runs.{PortOutcome}
use Rattle.dialect_command.specs.Spec.{most_definition_bytes, told_reason, refusal_of}
use Rattle.dialect_command.specs.Reads.{Holds, Halts, halt_of}
use Rattle.dialect_command.proofs.Stays.{stops_long, goes_on}

-- a piece with more bytes than there is room for
pub passes : (taken buf : List ℕ) (count : ℕ) → count ≤ length buf → most_definition_bytes - length taken < count → most_definition_bytes < length (taken ++ take count buf)
passes taken buf count within many = omega (arith, many, length-append taken (take count buf), length-take-le count buf within)

-- nothing was taken, and there was no memory
pub halts_unread : (o : PortOutcome) (lb : Option (List ℕ)) → Halts o lb lb NoMemory
halts_unread o lb = record { taken = []; ended = false; took = sym (prepend_known_nil lb); at_end = λ never. absurd (cc never); cause = tt }

module _ (o : PortOutcome) (lb la : Option (List ℕ)) (taken : List ℕ) (took : lb ≡ prepend_known taken la) where
  -- there was no memory for what was taken
  pub halts_memory : Halts o lb la NoMemory
  halts_memory = record { taken = taken; ended = false; took = took; at_end = λ never. absurd (cc never); cause = tt }

  -- one byte too many was taken
  pub halts_long : most_definition_bytes < length taken → Halts o lb la (Stopped (AtLimit DefinitionBytes))
  halts_long long = record { taken = taken; ended = false; took = took; at_end = λ never. absurd (cc never); cause = stops_long false taken long }

  -- a read failed, or the input was idle for too long
  pub halts_failed : length taken ≤ most_definition_bytes → o.failed → Halts o lb la ReadFault
  halts_failed short failed = record { taken = taken; ended = false; took = took; at_end = λ never. absurd (cc never); cause = (failed, refl, goes_on false taken short) }

  pub halts_idled : length taken ≤ most_definition_bytes → o.idled → Halts o lb la TurnsSpent
  halts_idled short idled = record { taken = taken; ended = false; took = took; at_end = λ never. absurd (cc never); cause = (idled, refl, goes_on false taken short) }

  -- the definitions have a fault that is reported with this reason
  halts_told : (fault : DialectFault) (reason : Reason) → told_reason fault ≡ reason → o.spent → length taken ≤ most_definition_bytes → definitions_of taken ≡ Err fault → Halts o lb la (Stopped (Bad Definitions reason))
  halts_told fault reason told spent short is = record {
    taken = taken;
    ended = true;
    took = took;
    at_end = λ ended. spent;
    cause = goes_on true taken short ∙ ap refusal_of is ∙ ap (λ (r : Reason). Some (Bad Definitions r)) told;
  }

  halts_by : (fault : DialectFault) → o.spent → length taken ≤ most_definition_bytes → (fault ≢ Unread → definitions_of taken ≡ Err fault) → Halts o lb la (halt_of fault)
  halts_by NotJson spent short is = halts_told NotJson Json refl spent short (is (λ e. cc e))
  halts_by (Shape at) spent short is = halts_told (Shape at) IsShape refl spent short (is (λ e. cc e))
  halts_by (BadType at) spent short is = halts_told (BadType at) FieldType refl spent short (is (λ e. cc e))
  halts_by (BadName at) spent short is = halts_told (BadName at) Name refl spent short (is (λ e. cc e))
  halts_by (TwiceId at) spent short is = halts_told (TwiceId at) IsTwiceId refl spent short (is (λ e. cc e))
  halts_by (TwiceName at) spent short is = halts_told (TwiceName at) IsTwiceName refl spent short (is (λ e. cc e))
  halts_by (Layout at fault) spent short is = halts_told (Layout at fault) IsLayout refl spent short (is (λ e. cc e))
  halts_by TooMany spent short is = halts_told TooMany AreTooMany refl spent short (is (λ e. cc e))
  halts_by Unread spent short is = halts_memory

  -- the same of borrowed bytes
  pub halts_refused : (lent : List ℕ) → lent ≡ taken → (fault : DialectFault) → o.spent → length taken ≤ most_definition_bytes → (fault ≢ Unread → definitions_of lent ≡ Err fault) → Halts o lb la (halt_of fault)
  halts_refused lent same fault spent short is = halts_by fault spent short (subst (λ bytes. fault ≢ Unread → definitions_of bytes ≡ Err fault) same is)

-- an input holds definitions
pub holds_read : (spent : Type 0) (lb la : Option (List ℕ)) (taken lent : List ℕ) (defs : List Definition) → lb ≡ prepend_known taken la → lent ≡ taken → spent → length taken ≤ most_definition_bytes → definitions_of lent ≡ Ok defs → Holds spent lb la defs
holds_read spent lb la taken lent defs took same at_end fits read = record { taken = taken; took = took; at_end = at_end; fits = fits; read = subst (λ bytes. definitions_of bytes ≡ Ok defs) same read }
