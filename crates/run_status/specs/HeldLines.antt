-- What a write of lines that are held does.
use Rattle.std.specs.Prelude.{◌≡◌, ℕ, List, Option, Result, OnOk, IfErr, IsErrOf}
use Rattle.mav_ports.specs.Counts.{Rose}
use Rattle.mav_ports.specs.Puts.{Sent, SentPrefix}
use Rattle.run_status.specs.declared.run_ends.RunEnd.{RunEnd}
use Rattle.run_status.specs.declared.run_ends.RunEnd.TheVariants.{WriteFault}
use Rattle.run_status.specs.Seen.{Output}

-- of any text of which all but the lines that were held was sent, all but those that are left now is, and at a failed
-- write, which the sink counts, a prefix
pub record WritesLines (out : Output) (held left : List ℕ) (result : Result (Unit {0}) RunEnd) : Type 0 where
  pub moved : OnOk result ((before : Option (List ℕ)) (whole : List ℕ) → Sent before out.sent_before whole held
      → Sent before out.sent_after whole left)
  pub front : (before : Option (List ℕ)) (whole : List ℕ) → Sent before out.sent_before whole held
      → SentPrefix before out.sent_after whole
  pub error : IfErr result (λ halt. halt ≡ WriteFault)
  pub rose : IsErrOf result WriteFault → Rose out.refusals_before out.refusals_after
  pub sound : OnOk result (out.refusals_after ≡ out.refusals_before)
