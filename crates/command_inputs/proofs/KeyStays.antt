-- Bytes that are too many for a key stay so, whatever follows.
use Rattle.std.proofs.Common.{◌≡◌, ◌∙◌, ◌<◌, ◌≤◌, ℕ, ltb, if◌then◌else◌, Bool, true, false, List, ◌++◌, length, refl, ap, arith, Option, Some, None, length-append}
use Rattle.std.proofs.lemmas.Bool.{lt-ltb, le-ltb, ltb-true}
use Rattle.run_status.specs.declared.input_errors.InputError.{InputError}
use Rattle.run_status.specs.Runs.{Steady}
use Rattle.command_inputs.specs.KeyInputs.{most_key_bytes, bad_key, stop_at, spec_by}

module _ (read : List ℕ → Option (List ℕ)) where
  -- too many bytes stop a run, and no fewer do before the input ended
  pub stops_long : (ended : Bool) (taken : List ℕ) → most_key_bytes < length taken → (spec_by read).stop ended taken ≡ Some bad_key
  stops_long ended taken long = ap (λ b. if b then Some bad_key else stop_at read ended taken) (lt-ltb most_key_bytes (length taken) long)

  pub goes_on : (ended : Bool) (taken : List ℕ) → length taken ≤ most_key_bytes → (spec_by read).stop ended taken ≡ stop_at read ended taken
  goes_on ended taken short = ap (λ b. if b then Some bad_key else stop_at read ended taken) (le-ltb most_key_bytes (length taken) short)

  longer : (taken more : List ℕ) → most_key_bytes < length taken → most_key_bytes < length (taken ++ more)
  longer taken more long = omega (arith, long, length-append taken more)

  stays_at : (ended : Bool) (taken more : List ℕ) (stop : InputError) (long : Bool) → ltb most_key_bytes (length taken) ≡ long → (if long then Some bad_key else None) ≡ Some stop → (spec_by read).stop ended (taken ++ more) ≡ Some stop
  stays_at ended taken more stop true is e = stops_long ended (taken ++ more) (longer taken more (ltb-true most_key_bytes (length taken) is)) ∙ e
  stays_at ended taken more stop false is e = absurd (cc e)

  -- a run that is stopped stays stopped
  pub key_steady : Steady (spec_by read)
  key_steady = record {
    stays = λ ended taken more stop e. (stays_at ended taken more stop (ltb most_key_bytes (length taken)) refl e, refl);
  }
