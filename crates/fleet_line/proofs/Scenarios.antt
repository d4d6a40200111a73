-- The clauses of `fleet`, from those of its parts.
use Rattle.std.proofs.Common.{◌≡◌, ◌≢◌, inl, inr, ℕ, Bool, true, false, List, refl, subst, Option, Some}
use Rattle.mav_ports.specs.Gets.{IsSpent}
use Rattle.run_status.specs.declared.run_ends.RunEnd.TheVariants.{NoMemory}
use Rattle.run_status.specs.Runs.{CommandSpec, Steady}
use Rattle.command_inputs.specs.KeyInputs.{key_spec}
use Rattle.command_inputs.specs.KeyText.{default_key, key_or_default}
use Rattle.command_inputs.proofs.KeyStays.{key_steady}
use Rattle.fleet_command.specs.Spec.{fleet_spec}
use Rattle.fleet_command.proofs.Stays.{fleet_steady}
use Rattle.fleet_theorem.proofs.Theorem.{carried}
use Rattle.run_status.specs.Seen.{Input, Output, input_of, around, before_status_over, promised_over}
use Rattle.command_inputs.specs.NamedKeys.{KeyIs}
use Rattle.fleet_line.specs.Fleets.{or_default, Fleets, CarriesOver, FleetsCarry}
use Rattle.command_inputs.proofs.KeyNames.{after_key, took_nothing}
use Rattle.command_inputs.proofs.NamedRuns.{unmade}

-- the key was read, or none was named, and then the main input was played
pub fleets_behind : (named_key frames : Bool) (runs : CommandSpec → Input → Type 0) (halted : Type 0) (key main : Input) (k : Option (List ℕ)) (used : List ℕ) (printed : Bool) → KeyIs named_key key k → used ≡ or_default k → printed ≡ frames → runs (fleet_spec used printed) main → Fleets named_key frames runs halted key main
fleets_behind named_key frames runs halted key main k used printed is same too run =
    after_key named_key runs halted main.unread key k (λ other. runs (fleet_spec (or_default other) frames) main) is
    (subst (λ u. runs (fleet_spec u frames) main) same (subst (λ f. runs (fleet_spec used f) main) too run))

-- the same options by another name
pub fleets_as : (one other first second : Bool) (runs : CommandSpec → Input → Type 0) (halted : Type 0) (key main : Input) → one ≡ other → first ≡ second → Fleets one first runs halted key main → Fleets other second runs halted key main
fleets_as one other first second runs halted key main same too d =
    subst (λ b. Fleets other b runs halted key main) too (subst (λ b. Fleets b first runs halted key main) same d)

-- each run's status is written
module _ (first second : CommandSpec → Input → Type 0) (halted stopped : Type 0) (on : (s : CommandSpec) → Steady s → (i : Input) → (i.spent → IsSpent i.left_after) → first s i → second s i) (ends : halted → stopped) where
  pub fleets_reported : (named_key frames : Bool) (key main : Input) → (key.spent → IsSpent key.left_after) → (main.spent → IsSpent main.left_after) → Fleets named_key frames first halted key main → Fleets named_key frames second stopped key main
  fleets_reported false frames key main ks ms d = on (fleet_spec default_key frames) (fleet_steady default_key frames) main ms d
  fleets_reported true frames key main ks ms (inl (run, h, within, unread)) = inl (on key_spec (key_steady key_or_default) key ks run, ends h, within, unread)
  fleets_reported true frames key main ks ms (inr (bytes, holds, d)) = inr (bytes, holds, on (fleet_spec bytes frames) (fleet_steady bytes frames) main ms d)

-- and the main theorem holds of it
carries_over : (key : List ℕ) (frames : Bool) (out : Output) (code : ℕ) (main : Input) → promised_over out code (fleet_spec key frames) main → CarriesOver key frames out code main
carries_over key frames out code main promises = carried key frames (around main out) main.left_before main.left_after out.sent_before out.sent_after code promises.run

pub fleets_carry : (named_key frames : Bool) (out : Output) (code : ℕ) (key main : Input) → Fleets named_key frames (promised_over out code) (code ≢ 0) key main → FleetsCarry named_key frames out code key main
fleets_carry false frames out code key main d = carries_over default_key frames out code main d
fleets_carry true frames out code key main (inl halts) = inl halts
fleets_carry true frames out code key main (inr (bytes, holds, d)) = inr (bytes, holds, carries_over bytes frames out code main d)

-- there was no memory before anything was read
module _ {A : Type 0} (has_ended : A → Type 0) (faults idles : A → ℕ) (left : A → Option (List ℕ)) (key main : A) (refusals : ℕ) (sent : Option (List ℕ)) where
  pub fleets_unread : (halted : Type 0) → halted → (named_key frames : Bool) → Fleets named_key frames (before_status_over (record { refusals_before = refusals; refusals_after = refusals; sent_before = sent; sent_after = sent }) (Some NoMemory)) halted (input_of has_ended faults idles left key key) (input_of has_ended faults idles left main main)
  fleets_unread halted h false frames = unmade has_ended faults idles left refusals sent (fleet_spec default_key frames) main
  fleets_unread halted h true frames = inl (unmade has_ended faults idles left refusals sent key_spec key, h, took_nothing (left key), refl)
