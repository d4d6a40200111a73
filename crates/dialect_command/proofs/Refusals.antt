-- Why the reading of definitions stopped, by its cause.
use Rattle.std.proofs.Common.{◌≡◌, ◌≤◌, ℕ, ltb, if◌then◌else◌, Bool, true, false, List, length, refl, Option, Some, IsTrue, Result, Ok, Err}
use Rattle.std.proofs.lemmas.Bool.{ltb-true, ltb-false}
use Rattle.std.specs.Io.KnownBytes.{prepend_known}
use Rattle.field_layout.specs.Definition.{Definition}
use Rattle.dialect.specs.declared.faults.DialectFault.{DialectFault}
use Rattle.dialect.specs.Grammar.{definitions_of}
use Rattle.run_status.specs.declared.run_ends.RunEnd.TheVariants.{Stopped}
use Rattle.run_status.specs.declared.input_errors.Place.TheVariants.{Definitions}
use Rattle.run_status.specs.declared.input_errors.Reason.{Reason}
use Rattle.run_status.specs.declared.input_errors.Bound.{Bound}
use Rattle.run_status.specs.declared.input_errors.Bound.TheVariants.{DefinitionBytes}
use Rattle.run_status.specs.declared.input_errors.InputError.TheVariants.{Bad, AtLimit}
use Rattle.dialect_command.specs.Spec.{most_definition_bytes, refusal_of, stop_at}
use Rattle.dialect_command.specs.Reads.{of_input, Halts}
use Rattle.dialect_command.specs.Ends.{Refused, IsTooLong}

module _ (spent : Type 0) (lb la sb sa : Option (List ℕ)) (taken : List ℕ) (took : lb ≡ prepend_known taken la) (unsent : sa ≡ sb) where
  refused_text : (reason : Reason) (r : Result (List Definition) DialectFault) → definitions_of taken ≡ r → spent → length taken ≤ most_definition_bytes → refusal_of r ≡ Some (Bad Definitions reason) → Refused reason spent lb la sb sa
  refused_text reason (Ok defs) is at_end fits e = absurd (cc e)
  refused_text reason (Err fault) is at_end fits e = record { taken = taken; took = took; at_end = at_end; fits = fits; fault = fault; is = is; said = cc e; unsent = unsent }

  refused_by : (reason : Reason) (ended long : Bool) → ltb most_definition_bytes (length taken) ≡ long → (IsTrue ended → spent) → (if long then Some (AtLimit DefinitionBytes) else stop_at ended taken) ≡ Some (Bad Definitions reason) → Refused reason spent lb la sb sa
  refused_by reason ended true is at_end e = absurd (cc e)
  refused_by reason false false is at_end e = absurd (cc e)
  refused_by reason true false is at_end e = refused_text reason (definitions_of taken) refl (at_end refl) (ltb-false most_definition_bytes (length taken) is) e

  long_text : {P : Type 0} (limit : Bound) (r : Result (List Definition) DialectFault) → refusal_of r ≡ Some (AtLimit limit) → P
  long_text limit (Ok defs) e = absurd (cc e)
  long_text limit (Err fault) e = absurd (cc e)

  long_by : (limit : Bound) (ended long : Bool) → ltb most_definition_bytes (length taken) ≡ long → (if long then Some (AtLimit DefinitionBytes) else stop_at ended taken) ≡ Some (AtLimit limit) → IsTooLong lb la sb sa
  long_by limit ended true is e = record { taken = taken; took = took; long = ltb-true most_definition_bytes (length taken) is; unsent = unsent }
  long_by limit false false is e = absurd (cc e)
  long_by limit true false is e = long_text limit (definitions_of taken) e

pub refused_at : (spent : Type 0) (fb fa ib ia : ℕ) (lb la sb sa : Option (List ℕ)) (reason : Reason) → sa ≡ sb → Halts (of_input spent fb fa ib ia) lb la (Stopped (Bad Definitions reason)) → Refused reason spent lb la sb sa
refused_at spent fb fa ib ia lb la sb sa reason unsent h =
    refused_by spent lb la sb sa h.taken h.took unsent reason h.ended (ltb most_definition_bytes (length h.taken)) refl h.at_end h.cause

pub long_at : (spent : Type 0) (fb fa ib ia : ℕ) (lb la sb sa : Option (List ℕ)) (limit : Bound) → sa ≡ sb → Halts (of_input spent fb fa ib ia) lb la (Stopped (AtLimit limit)) → IsTooLong lb la sb sa
long_at spent fb fa ib ia lb la sb sa limit unsent h =
    long_by spent lb la sb sa h.taken h.took unsent limit h.ended (ltb most_definition_bytes (length h.taken)) refl h.cause
