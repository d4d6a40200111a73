-- The main theorem holds of every run of `fleet`.
use Rattle.std.proofs.Common.{◌≡◌, ◌∙◌, ℕ, Bool, true, List, ◌++◌, sym, subst, arith, ap, Option, Some, None, append-nil}
use Rattle.std.specs.Io.KnownBytes.{prepend_known}
use Rattle.mav_ports.specs.Gets.{IsSpent}
use Rattle.run_status.specs.declared.run_ends.RunEnd.{RunEnd}
use Rattle.run_status.specs.declared.run_ends.RunEnd.TheVariants.{Usage, Stopped, ReadFault, WriteFault, NoMemory, TurnsSpent, Live}
use Rattle.run_status.specs.declared.input_errors.InputError.TheVariants.{Bad, AtLimit, StampsSpent}
use Rattle.run_status.specs.Endings.{code_of}
use Rattle.run_status.specs.Runs.{PortOutcome, Run}
use Rattle.fleet_world.specs.Authentic.{Authentic}
use Rattle.fleet_safety.proofs.Plays.{every_scenario}
use Rattle.fleet_safety.proofs.ReportedLines.{every_line}
use Rattle.fleet_liveness.proofs.Every as every
use Rattle.fleet_command_laws.proofs.Once.{every_once}
use Rattle.fleet_command_laws.proofs.Plays.{every_begins}
use Rattle.fleet_command.specs.Spec.{fleet_spec}
use Rattle.fleet_theorem.specs.Theorem.{MainTheorem, Carries}

pub main_theorem : (key : List ℕ) (ended : Bool) (bytes : List ℕ) → Authentic key ended bytes → MainTheorem key ended bytes
main_theorem key ended bytes authentic = record {
  safe = every_scenario key ended bytes authentic;
  lines = every_line key ended bytes authentic;
  uploads = every.uploads key ended bytes authentic;
  commands = every_once key ended bytes authentic;
  accepted = every_begins key ended bytes authentic;
}

pub carried : (key : List ℕ) (frames : Bool) (o : PortOutcome) (left_before left_after sent_before sent_after : Option (List ℕ)) (code : ℕ) → ((end : Option RunEnd) × (code ≡ code_of end) × Run (fleet_spec key frames) o left_before left_after sent_before sent_after end) → Carries key frames o left_before left_after sent_before sent_after code
carried key frames o left_before left_after sent_before sent_after code run = record {
  end = run.0;
  status = run.1;
  run = run.2;
  theorem = main_theorem key run.2.ended run.2.taken;
}

-- all bytes that an input had were taken, if nothing is left of it
taken_whole : (bytes taken : List ℕ) (left : Option (List ℕ)) → Some bytes ≡ prepend_known taken left → IsSpent left → taken ≡ bytes
taken_whole bytes taken None took spent = absurd (let wrong : ◌≡◌ {A = Option (List ℕ)} (Some bytes) None = took in cc)
taken_whole bytes taken (Some rest) took spent =
    let same : ◌≡◌ {A = Option (List ℕ)} (Some bytes) (Some (taken ++ rest)) = took in
    let whole : bytes ≡ taken ++ rest = cc in
    sym (whole ∙ ap (λ (xs : List ℕ). taken ++ xs) spent ∙ append-nil taken)

module _ (key : List ℕ) (frames : Bool) where
  -- a run of known bytes that is done carries the theorem of all of them
  done_carries : (o : PortOutcome) (bytes : List ℕ) (left_before left_after sent_before sent_after : Option (List ℕ)) (end : Option RunEnd) → code_of end ≡ 0 → left_before ≡ Some bytes → (o.spent → IsSpent left_after)
      → (run : Run (fleet_spec key frames) o left_before left_after sent_before sent_after end) → (Authentic key run.ended run.taken → MainTheorem key run.ended run.taken) → (Authentic key true bytes → MainTheorem key true bytes)
  done_carries o bytes left_before left_after sent_before sent_after None zero reported spent run theorem =
      let ended = run.cause.0 in
      subst (λ taken. Authentic key true taken → MainTheorem key true taken) (taken_whole bytes run.taken left_after (sym reported ∙ run.took) (spent (run.at_end ended)))
      (subst (λ is_ended. Authentic key is_ended run.taken → MainTheorem key is_ended run.taken) ended theorem)
  done_carries o bytes left_before left_after sent_before sent_after (Some Usage) zero reported spent run theorem = absurd (omega arith)
  done_carries o bytes left_before left_after sent_before sent_after (Some (Stopped (Bad place reason))) zero reported spent run theorem = absurd (omega arith)
  done_carries o bytes left_before left_after sent_before sent_after (Some (Stopped (AtLimit limit))) zero reported spent run theorem = absurd (omega arith)
  done_carries o bytes left_before left_after sent_before sent_after (Some (Stopped StampsSpent)) zero reported spent run theorem = absurd (omega arith)
  done_carries o bytes left_before left_after sent_before sent_after (Some ReadFault) zero reported spent run theorem = absurd (omega arith)
  done_carries o bytes left_before left_after sent_before sent_after (Some WriteFault) zero reported spent run theorem = absurd (omega arith)
  done_carries o bytes left_before left_after sent_before sent_after (Some NoMemory) zero reported spent run theorem = absurd (omega arith)
  done_carries o bytes left_before left_after sent_before sent_after (Some TurnsSpent) zero reported spent run theorem = absurd (omega arith)
  done_carries o bytes left_before left_after sent_before sent_after (Some (Live end)) zero reported spent run theorem = absurd run.cause

  pub theorem_of : (o : PortOutcome) (bytes : List ℕ) (left_before left_after sent_before sent_after : Option (List ℕ)) (code : ℕ) → Carries key frames o left_before left_after sent_before sent_after code → code ≡ 0 → left_before ≡ Some bytes → (o.spent → IsSpent left_after) → (Authentic key true bytes → MainTheorem key true bytes)
  theorem_of o bytes left_before left_after sent_before sent_after code carries zero reported spent =
      done_carries o bytes left_before left_after sent_before sent_after carries.end (sym carries.status ∙ zero) reported spent carries.run carries.theorem
