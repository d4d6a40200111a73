-- What is done with the bytes of a file that a station stores on a drone.
use Rattle.std.specs.Prelude.{◌≡◌, ◌<◌, ◌≤◌, ℕ, nat_lt, Bool, true, false, if◌then◌else◌, List, [], length, Option}
use Rattle.std.specs.Prelude.{Some, None}
use Rattle.std.specs.Io.KnownBytes.{prepend_known}
use Rattle.run_status.specs.declared.input_errors.Place.TheVariants.{Operation}
use Rattle.run_status.specs.declared.input_errors.Reason.TheVariants.{Refused}
use Rattle.run_status.specs.declared.input_errors.InputError.{InputError}
use Rattle.run_status.specs.declared.input_errors.InputError.TheVariants.{Bad}
use Rattle.run_status.specs.Runs.{CommandSpec}

-- the most bytes of a file on a drone
abbrev pub most_file_bytes : ℕ
most_file_bytes = 1048576

-- how a longer one is reported: `bad operation: refused`
abbrev pub refused : InputError
refused = Bad Operation Refused

-- too many bytes stop a run at once, and nothing is written of a file
abbrev pub put_spec : CommandSpec
put_spec = record {
  stop = λ ended bytes. if nat_lt most_file_bytes (length bytes) then Some refused else None;
  report = λ ended bytes. [];
  closing = λ bytes. [];
}

-- an input was taken to its end, and these are its bytes
pub record HoldsFile (spent : Type 0) (left_before left_after : Option (List ℕ)) (bytes : List ℕ) : Type 0 where
  pub took : left_before ≡ prepend_known bytes left_after
  pub at_end : spent
  pub fits : length bytes ≤ most_file_bytes

-- these bytes were taken of an input, which hasn't failed
pub record Held (first : Option (List ℕ)) (faults idles : ℕ) (left : Option (List ℕ)) (faults_now idles_now : ℕ)
    (bytes : List ℕ) : Type 0 where
  pub took : first ≡ prepend_known bytes left
  pub faults_are : faults_now ≡ faults
  pub idles_are : idles ≤ idles_now

-- a read gave more bytes, or the input has ended
abbrev pub GoesOn : Bool → Type 0 → (before after : List ℕ) → Type 0
GoesOn true spent before after = length before < length after
GoesOn false spent before after = spent × (after ≡ before)
