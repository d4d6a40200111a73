-- A run over ports, and then the text of its status.
use Rattle.std.specs.Prelude.{◌≡◌, ℕ, List, Option, Result}
use Rattle.std.specs.Result.{result_err}
use Rattle.run_status.specs.declared.run_ends.RunEnd.{RunEnd}
use Rattle.run_status.specs.Endings.{code_of}
use Rattle.run_status.specs.StatusText.{WritesStatus}
use Rattle.run_status.specs.Seen.{Output}

-- what ran ended so, and then the text of its status was written, by which this is the status
pub record Reported (Ran : Output → Option RunEnd → Type 0) (out : Output) (code : ℕ) : Type 0 where
  pub ended : Result (Unit {0}) RunEnd
  pub reported : Result (Unit {0}) RunEnd
  pub refusals : ℕ
  pub sent : Option (List ℕ)
  pub ran : Ran (record out { refusals_after = refusals; sent_after = sent }) (result_err ended)
  pub status : WritesStatus ended reported refusals out.refusals_after sent out.sent_after
  pub code_is : code ≡ code_of (result_err reported)
