-- A command's run whose status is written, and one that halted before it began.
use Rattle.std.proofs.Common.{◌≡◌, ℕ, List, sym, subst, Option, Some, Result, IsErrOf}
use Rattle.std.specs.Result.{result_err}
use Rattle.mav_ports.specs.Gets.{IsSpent}
use Rattle.run_status.specs.declared.run_ends.RunEnd.{RunEnd}
use Rattle.run_status.specs.declared.run_ends.RunEnd.TheVariants.{WriteFault, NoMemory}
use Rattle.run_status.specs.Endings.{code_of}
use Rattle.run_status.specs.Runs.{CommandSpec, Steady}
use Rattle.run_status.specs.StatusText.{WritesStatus}
use Rattle.run_status.specs.Seen.{Input, input_of, around, before_status_over, promised_over}
use Rattle.run_status.proofs.RunsBeforeStatus.{before_status_nothing, run_reported}
use Rattle.run_status.proofs.Ends.{promised}

-- the status of a run is written
pub reported_over : (rb rm ra : ℕ) (sb sm sa : Option (List ℕ)) (ended reported : Result (Unit {0}) RunEnd) → ((IsErrOf ended WriteFault → ⊥) → rm ≡ rb) → WritesStatus ended reported rm ra sm sa → (s : CommandSpec) → Steady s → (i : Input) → (i.spent → IsSpent i.left_after)
    → before_status_over (record { refusals_before = rb; refusals_after = rm; sent_before = sb; sent_after = sm }) (result_err ended) s i
    → promised_over (record { refusals_before = rb; refusals_after = ra; sent_before = sb; sent_after = sa }) (code_of (result_err reported)) s i
reported_over rb rm ra sb sm sa ended reported sound writes s steady i nothing u =
    promised s steady (around i (record { refusals_before = rb; refusals_after = ra; sent_before = sb; sent_after = sa })) i.left_before i.left_after sb sa (result_err reported) nothing
    (run_reported s i.spent i.faults_before i.faults_after i.idles_before i.idles_after rb rm ra i.left_before i.left_after sb sm sa ended reported u sound writes)

-- there was no memory before anything was read
module _ {A : Type 0} (has_ended : A → Type 0) (faults idles : A → ℕ) (left : A → Option (List ℕ)) (refusals : ℕ) (sent : Option (List ℕ)) where
  pub unmade : (s : CommandSpec) (a : A) → before_status_over (record { refusals_before = refusals; refusals_after = refusals; sent_before = sent; sent_after = sent }) (Some NoMemory) s (input_of has_ended faults idles left a a)
  unmade s a = before_status_nothing s (around (input_of has_ended faults idles left a a) (record { refusals_before = refusals; refusals_after = refusals; sent_before = sent; sent_after = sent })) (left a) sent

  pub unmade_as : (s : CommandSpec) (a : A) (end : RunEnd) → end ≡ NoMemory → before_status_over (record { refusals_before = refusals; refusals_after = refusals; sent_before = sent; sent_after = sent }) (Some end) s (input_of has_ended faults idles left a a)
  unmade_as s a end is =
      subst (λ e. before_status_over (record { refusals_before = refusals; refusals_after = refusals; sent_before = sent; sent_after = sent }) (Some e) s (input_of has_ended faults idles left a a)) (sym is) (unmade s a)
