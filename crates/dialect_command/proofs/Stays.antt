-- Bytes that are too many stay too many, whatever follows.
use Rattle.std.proofs.Common.{◌≡◌, ◌∙◌, ◌<◌, ◌≤◌, ℕ, ltb, if◌then◌else◌, Bool, true, false, List, ◌++◌, length, refl, ap, arith, Some, None}
use Rattle.std.proofs.lemmas.Bool.{lt-ltb, le-ltb, ltb-true}
use Rattle.std.proofs.lemmas.List.{length-append}
use Rattle.field_layout.specs.Definition.{Definition}
use Rattle.run_status.specs.declared.input_errors.Bound.TheVariants.{DefinitionBytes}
use Rattle.run_status.specs.declared.input_errors.InputError.{InputError}
use Rattle.run_status.specs.declared.input_errors.InputError.TheVariants.{AtLimit}
use Rattle.run_status.specs.Runs.{Steady}
use Rattle.dialect_command.specs.Spec.{most_definition_bytes, stop_at, reading, definitions_spec, telling}

-- too many bytes stop a run, and no fewer do before the input ended
pub stops_long : (ended : Bool) (taken : List ℕ) → most_definition_bytes < length taken → definitions_spec.stop ended taken ≡ Some (AtLimit DefinitionBytes)
stops_long ended taken long = ap (λ b. if b then Some (AtLimit DefinitionBytes) else stop_at ended taken) (lt-ltb most_definition_bytes (length taken) long)

pub goes_on : (ended : Bool) (taken : List ℕ) → length taken ≤ most_definition_bytes → definitions_spec.stop ended taken ≡ stop_at ended taken
goes_on ended taken short = ap (λ b. if b then Some (AtLimit DefinitionBytes) else stop_at ended taken) (le-ltb most_definition_bytes (length taken) short)

-- with more bytes
longer : (taken more : List ℕ) → most_definition_bytes < length taken → most_definition_bytes < length (taken ++ more)
longer taken more long = omega (arith, long, length-append taken more)

stays_at : (ended : Bool) (taken more : List ℕ) (stop : InputError) (long : Bool) → ltb most_definition_bytes (length taken) ≡ long → (if long then Some (AtLimit DefinitionBytes) else None) ≡ Some stop → definitions_spec.stop ended (taken ++ more) ≡ Some stop
stays_at ended taken more stop true is e = stops_long ended (taken ++ more) (longer taken more (ltb-true most_definition_bytes (length taken) is)) ∙ e
stays_at ended taken more stop false is e = absurd (cc e)

pub reading_steady : (closing : List ℕ → List ℕ) → Steady (reading closing)
reading_steady closing = record {
  stays = λ ended taken more stop e. (stays_at ended taken more stop (ltb most_definition_bytes (length taken)) refl e, refl);
}

pub telling_steady : (defs : List Definition) → Steady (telling defs)
telling_steady defs = record { stays = λ ended taken more stop e. absurd (cc e) }
