-- What the lines of a file make of a state, one after another, and how an input is read as such a file.
use Rattle.std.specs.Prelude.{◌≡◌, ℕ, Bool, true, List, [], Option, Some, None, Ok, Err, IsTrue}
use Rattle.std.specs.declared.result.Result.{Result}
use Rattle.std.specs.Io.KnownBytes.{prepend_known}
use Rattle.scenario_lines.specs.declared.faults.Reason.{Reason}
use Rattle.scenario_lines.specs.declared.faults.Reason.TheVariants.{Long}
use Rattle.scenario_lines.specs.declared.faults.LineFault.{LineFault}
use Rattle.scenario_lines.specs.declared.faults.LineFault.TheVariants.{Bad as IsBad, NoMemory as NoLineMemory}
use Rattle.run_status.specs.declared.input_errors.Place.TheVariants.{Line as AtLine}
use Rattle.run_status.specs.declared.input_errors.Reason.TheVariants.{Line as OfLine}
use Rattle.run_status.specs.declared.input_errors.Bound.TheVariants.{Lines}
use Rattle.run_status.specs.declared.input_errors.InputError.{InputError}
use Rattle.run_status.specs.declared.input_errors.InputError.TheVariants.{Bad, AtLimit}
use Rattle.run_status.specs.declared.run_ends.RunEnd.{RunEnd}
use Rattle.run_status.specs.Runs.{CommandSpec, PortOutcome, Cause}
use Rattle.command_inputs.specs.LineRules.{LineRules, bytes_read}

-- `bad line K: REASON`
abbrev pub bad_line : ℕ → Reason → InputError
bad_line number reason = Bad (AtLine number) (OfLine reason)

-- what a text says: the state after it, or the first reason against it
abbrev pub Says : Type 0 → Type 0
Says S = S → List ℕ → Result S Reason

-- a taker did what a text says, or gave the reason against it, unless there was no memory
abbrev pub FaultSays : {S : Type 0} → Result (Unit {0}) LineFault → Result S Reason → S → Type 0
FaultSays (Ok done) said state = said ≡ Ok state
FaultSays (Err (IsBad reason)) said state = said ≡ Err reason
FaultSays (Err NoLineMemory) said state = Unit {0}

-- ---- a file

-- the state that its lines led to, and why they stop, if they do
pub record Read (S : Type 0) : Type 0 where
  pub state : S
  pub stop : Option InputError

-- nothing stopped them
abbrev pub going : {S : Type 0} → S → Read S
going state = record { state = state; stop = None }

abbrev pub stopped : {S : Type 0} → Read S → InputError → Read S
stopped r stop = record r { stop = Some stop }

-- line `number`, after what it says
abbrev pub judged : {S : Type 0} → Read S → ℕ → Result S Reason → Read S
judged r number (Ok state) = going state
judged r number (Err reason) = stopped r (bad_line number reason)

abbrev pub rules_of : {S : Type 0} → Says S → LineRules (Read S) InputError
rules_of says = record {
  stop = λ r. r.stop;
  text = λ r number text. judged r number (says r.state text);
  long = λ r number. stopped r (bad_line number Long);
  many = λ r. stopped r (AtLimit Lines);
}

-- what the bytes that were taken make of the state at the start; `ended` says whether the input ended after them
abbrev pub file_read : {S : Type 0} → Says S → S → Bool → List ℕ → Read S
file_read says start ended bytes = bytes_read (rules_of says) (going start) ended bytes

-- ---- an input

-- a file stops a run at its first bad line, and nothing is written of it
abbrev pub lines_spec : {S : Type 0} → Says S → S → CommandSpec
lines_spec says start = record {
  stop = λ ended bytes. (file_read says start ended bytes).stop;
  report = λ ended bytes. [];
  closing = λ bytes. [];
}

-- an input was taken to its end, and its lines lead to exactly this state
pub record HoldsLines {S : Type 0} (says : Says S) (start : S) (spent : Type 0)
    (left_before left_after : Option (List ℕ)) (state : S) : Type 0 where
  pub taken : List ℕ
  pub took : left_before ≡ prepend_known taken left_after
  pub at_end : spent
  pub gives : file_read says start true taken ≡ going state

-- an input was taken up to where a run halts: its lines stop it, or a read failed, or it was idle for too long before
-- that, or there was no memory
pub record HaltsLines {S : Type 0} (says : Says S) (start : S) (o : PortOutcome)
    (left_before left_after : Option (List ℕ)) (run_end : RunEnd) : Type 0 where
  pub taken : List ℕ
  pub ended : Bool
  pub took : left_before ≡ prepend_known taken left_after
  pub at_end : IsTrue ended → o.spent
  pub cause : Cause (lines_spec says start) (Some run_end) o ended taken

-- that, by the result of the reading
abbrev pub ReadsLines : {S T : Type 0} → Result T RunEnd → Says S → S → PortOutcome → Option (List ℕ) → Option (List ℕ)
    → S → Type 0
ReadsLines (Ok done) says start o left_before left_after state =
    HoldsLines says start o.spent left_before left_after state
ReadsLines (Err run_end) says start o left_before left_after state =
    HaltsLines says start o left_before left_after run_end
