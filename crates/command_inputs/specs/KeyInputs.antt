-- What is done with the bytes of a key's input.
use Rattle.std.specs.Prelude.{◌≡◌, ◌≤◌, ℕ, nat_lt, Bool, true, false, if◌then◌else◌, List, [], length, Option, Some}
use Rattle.std.specs.Prelude.{None}
use Rattle.std.specs.Io.KnownBytes.{prepend_known}
use Rattle.run_status.specs.declared.input_errors.Place.TheVariants.{Key as KeyPlace}
use Rattle.run_status.specs.declared.input_errors.Reason.TheVariants.{Key as KeyReason}
use Rattle.run_status.specs.declared.input_errors.InputError.{InputError}
use Rattle.run_status.specs.declared.input_errors.InputError.TheVariants.{Bad}
use Rattle.run_status.specs.Runs.{CommandSpec}
use Rattle.command_inputs.specs.KeyText.{key_of, key_or_default}

-- 64 digits and CR LF
abbrev pub most_key_bytes : ℕ
most_key_bytes = 66

-- how a bad key is reported: `bad key: key`
abbrev pub bad_key : InputError
bad_key = Bad KeyPlace KeyReason

abbrev pub refusal_of : Option (List ℕ) → Option InputError
refusal_of (Some key) = None
refusal_of None = Some bad_key

-- too many bytes stop a run at once, and another fault once the input ended, by what a text is read as
abbrev pub stop_at : (List ℕ → Option (List ℕ)) → Bool → List ℕ → Option InputError
stop_at read true bytes = refusal_of (read bytes)
stop_at read false bytes = None

-- nothing is written of a key
abbrev pub spec_by : (List ℕ → Option (List ℕ)) → CommandSpec
spec_by read = record {
  stop = λ ended bytes. if nat_lt most_key_bytes (length bytes) then Some bad_key else stop_at read ended bytes;
  report = λ ended bytes. [];
  closing = λ bytes. [];
}

-- a key, which is the default if the input has no byte
abbrev pub key_spec : CommandSpec
key_spec = spec_by key_or_default

-- a key that the input must have
abbrev pub given_key_spec : CommandSpec
given_key_spec = spec_by key_of

-- an input was taken to its end, and it holds this key
pub record HoldsBy (read : List ℕ → Option (List ℕ)) (spent : Type 0) (left_before left_after : Option (List ℕ))
    (key : List ℕ) : Type 0 where
  pub taken : List ℕ
  pub took : left_before ≡ prepend_known taken left_after
  pub at_end : spent
  pub read_is : read taken ≡ Some key

abbrev pub HoldsKey : Type 0 → (left_before left_after : Option (List ℕ)) → (key : List ℕ) → Type 0
HoldsKey = HoldsBy key_or_default

abbrev pub HoldsGivenKey : Type 0 → (left_before left_after : Option (List ℕ)) → (key : List ℕ) → Type 0
HoldsGivenKey = HoldsBy key_of

-- no more than so many bytes were taken from an input
pub record TookAtMost (most : ℕ) (left_before left_after : Option (List ℕ)) : Type 0 where
  pub taken : List ℕ
  pub took : left_before ≡ prepend_known taken left_after
  pub fits : length taken ≤ most
