-- What a run promises by its status, once the text of that was written.
use Rattle.std.proofs.Common.{◌≡◌, ℕ, List, Option, Result, IsErrOf}
use Rattle.std.specs.Result.{result_err}
use Rattle.mav_ports.specs.Gets.{IsSpent}
use Rattle.run_status.specs.declared.run_ends.RunEnd.{RunEnd}
use Rattle.run_status.specs.declared.run_ends.RunEnd.TheVariants.{WriteFault}
use Rattle.run_status.specs.Endings.{code_of}
use Rattle.run_status.specs.Runs.{RunBeforeStatus, Promises, port_outcome}
use Rattle.run_status.specs.StatusText.{WritesStatus}
use Rattle.run_status.proofs.Ends.{promised}
use Rattle.run_status.proofs.RunsBeforeStatus.{run_reported}
use Rattle.decode_command.specs.Tellings.{Telling, telling_spec}
use Rattle.decode_command.proofs.Stays.{telling_steady}

pub status_told : (t : Telling) (spent : Type 0) (faults_before faults_after idles_before idles_after refusals_before refusals_told refusals_after : ℕ) (left_before left_after sent_before sent_told sent_after : Option (List ℕ)) (ended reported : Result (Unit {0}) RunEnd) → (spent → IsSpent left_after)
    → RunBeforeStatus (telling_spec t) (port_outcome spent faults_before faults_after idles_before idles_after refusals_before refusals_told) left_before left_after sent_before sent_told (result_err ended) → ((IsErrOf ended WriteFault → ⊥) → refusals_told ≡ refusals_before) → WritesStatus ended reported refusals_told refusals_after sent_told sent_after
    → Promises (telling_spec t) (port_outcome spent faults_before faults_after idles_before idles_after refusals_before refusals_after) left_before left_after sent_before sent_after (code_of (result_err reported))
status_told t spent faults_before faults_after idles_before idles_after refusals_before refusals_told refusals_after left_before left_after sent_before sent_told sent_after ended reported nothing run sound writes =
    promised (telling_spec t) (telling_steady t) (port_outcome spent faults_before faults_after idles_before idles_after refusals_before refusals_after) left_before left_after sent_before sent_after (result_err reported) nothing
    (run_reported (telling_spec t) spent faults_before faults_after idles_before idles_after refusals_before refusals_told refusals_after left_before left_after sent_before sent_told sent_after ended reported run sound writes)
