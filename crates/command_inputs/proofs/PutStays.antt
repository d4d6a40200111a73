-- Bytes that are too many for a file stay so, whatever follows.
use Rattle.std.proofs.Common.{◌≡◌, ◌∙◌, ◌<◌, ◌≤◌, ℕ, ltb, if◌then◌else◌, Bool, true, false, List, ◌++◌, length, refl, ap, arith, Some, None, length-append}
use Rattle.std.proofs.lemmas.Bool.{lt-ltb, le-ltb, ltb-true}
use Rattle.run_status.specs.declared.input_errors.InputError.{InputError}
use Rattle.run_status.specs.Runs.{Steady}
use Rattle.command_inputs.specs.PutFiles.{most_file_bytes, refused, put_spec}

-- too many bytes stop a run, and no fewer do
pub stops_long : (ended : Bool) (taken : List ℕ) → most_file_bytes < length taken → put_spec.stop ended taken ≡ Some refused
stops_long ended taken long = ap (λ b. if b then Some refused else None) (lt-ltb most_file_bytes (length taken) long)

pub goes_on : (ended : Bool) (taken : List ℕ) → length taken ≤ most_file_bytes → put_spec.stop ended taken ≡ None
goes_on ended taken short = ap (λ b. if b then Some refused else None) (le-ltb most_file_bytes (length taken) short)

longer : (taken more : List ℕ) → most_file_bytes < length taken → most_file_bytes < length (taken ++ more)
longer taken more long = omega (arith, long, length-append taken more)

stays_at : (ended : Bool) (taken more : List ℕ) (stop : InputError) (long : Bool) → ltb most_file_bytes (length taken) ≡ long → (if long then Some refused else None) ≡ Some stop → put_spec.stop ended (taken ++ more) ≡ Some stop
stays_at ended taken more stop true is e = stops_long ended (taken ++ more) (longer taken more (ltb-true most_file_bytes (length taken) is)) ∙ e
stays_at ended taken more stop false is e = absurd (cc e)

-- a run that is stopped stays stopped
pub put_steady : Steady put_spec
put_steady = record {
  stays = λ ended taken more stop e. (stays_at ended taken more stop (ltb most_file_bytes (length taken)) refl e, refl);
}
