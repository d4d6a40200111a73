-- The clauses of `decode`, from those of its parts.
use Rattle.std.proofs.Common.{◌≡◌, inl, inr, ℕ, Bool, true, false, List, refl, subst, Option, Some, None}
use Rattle.mav_ports.specs.Gets.{IsSpent}
use Rattle.field_layout.specs.Definition.{Definition}
use Rattle.mav_profile.specs.Profile.{profile_definitions}
use Rattle.run_status.specs.declared.run_ends.RunEnd.TheVariants.{NoMemory}
use Rattle.run_status.specs.Runs.{CommandSpec, Steady}
use Rattle.command_inputs.specs.KeyText.{key_or_default}
use Rattle.command_inputs.specs.KeyInputs.{key_spec}
use Rattle.command_inputs.proofs.KeyStays.{key_steady}
use Rattle.dialect_command.specs.Spec.{definitions_spec}
use Rattle.dialect_command.proofs.Stays.{reading_steady}
use Rattle.decode_command.specs.Spec.{decode_spec}
use Rattle.decode_command.proofs.Stays.{decode_steady}
use Rattle.run_status.specs.Seen.{Input, input_of, before_status_over}
use Rattle.command_inputs.proofs.KeyNames.{took_nothing}
use Rattle.command_inputs.proofs.NamedRuns.{unmade}
use Rattle.dialect_command.specs.Known.{WithDefinitions, KnownIs}
use Rattle.decode_command.specs.Decoding.{DecodesWith, Decodes}

-- each run's status is written
module _ (first second : CommandSpec → Input → Type 0) (halted stopped : Type 0) (on : (s : CommandSpec) → Steady s → (i : Input) → (i.spent → IsSpent i.left_after) → first s i → second s i) (ends : halted → stopped) where
  with_reported : (key : Option (List ℕ)) (named : Bool) (defs main : Input) → (defs.spent → IsSpent defs.left_after) → (main.spent → IsSpent main.left_after) → DecodesWith key named first halted defs main → DecodesWith key named second stopped defs main
  with_reported key false defs main ds ms d =
      on (decode_spec (record { dialect = profile_definitions; key = key })) (decode_steady (record { dialect = profile_definitions; key = key })) main ms d
  with_reported key true defs main ds ms (inl (run, h, unread)) = inl (on definitions_spec (reading_steady definitions_spec.closing) defs ds run, ends h, unread)
  with_reported key true defs main ds ms (inr (known, holds, run)) =
      inr (known, holds, on (decode_spec (record { dialect = known; key = key })) (decode_steady (record { dialect = known; key = key })) main ms run)

  pub decodes_reported : (named_key named_defs : Bool) (key defs main : Input) → (key.spent → IsSpent key.left_after) → (defs.spent → IsSpent defs.left_after) → (main.spent → IsSpent main.left_after) → Decodes named_key named_defs first halted key defs main → Decodes named_key named_defs second stopped key defs main
  decodes_reported false n key defs main ks ds ms d = with_reported None n defs main ds ms d
  decodes_reported true n key defs main ks ds ms (inl (run, h, within, unread)) = inl (on key_spec (key_steady key_or_default) key ks run, ends h, within, unread)
  decodes_reported true n key defs main ks ds ms (inr (bytes, holds, d)) = inr (bytes, holds, with_reported (Some bytes) n defs main ds ms d)

-- there was no memory before anything was read
module _ {A : Type 0} (has_ended : A → Type 0) (faults idles : A → ℕ) (left : A → Option (List ℕ)) (key defs main : A) (refusals : ℕ) (sent : Option (List ℕ)) where
  pub decodes_unread : (halted : Type 0) → halted → (named_key named_defs : Bool) → Decodes named_key named_defs (before_status_over (record { refusals_before = refusals; refusals_after = refusals; sent_before = sent; sent_after = sent }) (Some NoMemory)) halted (input_of has_ended faults idles left key key) (input_of has_ended faults idles left defs defs) (input_of has_ended faults idles left main main)
  decodes_unread halted h false false = unmade has_ended faults idles left refusals sent (decode_spec (record { dialect = profile_definitions; key = None })) main
  decodes_unread halted h false true = inl (unmade has_ended faults idles left refusals sent definitions_spec defs, h, refl)
  decodes_unread halted h true n = inl (unmade has_ended faults idles left refusals sent key_spec key, h, took_nothing (left key), (refl, refl))
