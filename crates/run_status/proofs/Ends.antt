-- What a run says of each status.
use Rattle.std.proofs.Common.{◌≡◌, ◌∙◌, ◌⊎◌, inl, inr, ℕ, Bool, true, false, List, [], ◌++◌, refl, sym, subst, arith, ap, Option, Some, None, IsTrue, codes, append-nil}
use Rattle.std.proofs.lemmas.List.{append_cancel_right}
use Rattle.std.specs.Io.KnownBytes.{append_known, prepend_known}
use Rattle.mav_ports.specs.Gets.{IsSpent}
use Rattle.mav_ports.specs.Puts.{SentPrefix}
use Rattle.run_status.specs.declared.input_errors.Place.{Place}
use Rattle.run_status.specs.declared.input_errors.Reason.{Reason}
use Rattle.run_status.specs.declared.input_errors.Bound.{Bound}
use Rattle.run_status.specs.declared.input_errors.InputError.{InputError}
use Rattle.run_status.specs.declared.input_errors.InputError.TheVariants.{Bad, AtLimit, StampsSpent}
use Rattle.run_status.specs.declared.run_ends.RunEnd.{RunEnd}
use Rattle.run_status.specs.declared.run_ends.RunEnd.TheVariants.{Usage, Stopped, ReadFault, WriteFault, NoMemory, TurnsSpent, Live}
use Rattle.run_status.specs.Endings.{code_of, error_code, error_text}
use Rattle.run_status.specs.Runs.{CommandSpec, Steady, whole, PortOutcome, Cause, text_so_far, output_of, Run, Took, ReportedError, ReportedCutoff, end_of, OrFails, Promises}

-- the input ended, and nothing stopped the run
done_at : (s : CommandSpec) (o : PortOutcome) (lb la sb sa : Option (List ℕ)) (end : Option RunEnd) → code_of end ≡ 0 → Run s o lb la sb sa end → (taken : List ℕ) × (lb ≡ prepend_known taken la) × o.spent × (s.stop true taken ≡ None) × (sa ≡ append_known sb (whole s taken))
done_at s o lb la sb sa None e run =
    let ended = run.cause.0 in (
      run.taken,
      run.took,
      run.at_end ended,
      subst (λ b. s.stop b run.taken ≡ None) ended run.cause.1,
      run.wrote ∙ ap (λ b. append_known sb (s.report b run.taken ++ s.closing run.taken)) ended,
    )
done_at s o lb la sb sa (Some Usage) e run = absurd (omega arith)
done_at s o lb la sb sa (Some (Stopped (Bad place reason))) e run = absurd (omega arith)
done_at s o lb la sb sa (Some (Stopped (AtLimit limit))) e run = absurd (omega arith)
done_at s o lb la sb sa (Some (Stopped StampsSpent)) e run = absurd (omega arith)
done_at s o lb la sb sa (Some ReadFault) e run = absurd (omega arith)
done_at s o lb la sb sa (Some WriteFault) e run = absurd (omega arith)
done_at s o lb la sb sa (Some NoMemory) e run = absurd (omega arith)
done_at s o lb la sb sa (Some TurnsSpent) e run = absurd (omega arith)
done_at s o lb la sb sa (Some (Live end)) e run = absurd run.cause

-- no run of a command ends with 2
usage_at : (s : CommandSpec) (o : PortOutcome) (lb la sb sa : Option (List ℕ)) (end : Option RunEnd) → code_of end ≡ 2 → Run s o lb la sb sa end → ⊥
usage_at s o lb la sb sa None e run = absurd (omega arith)
usage_at s o lb la sb sa (Some Usage) e run = run.cause
usage_at s o lb la sb sa (Some (Stopped (Bad place reason))) e run = absurd (omega arith)
usage_at s o lb la sb sa (Some (Stopped (AtLimit limit))) e run = absurd (omega arith)
usage_at s o lb la sb sa (Some (Stopped StampsSpent)) e run = absurd (omega arith)
usage_at s o lb la sb sa (Some ReadFault) e run = absurd (omega arith)
usage_at s o lb la sb sa (Some WriteFault) e run = absurd (omega arith)
usage_at s o lb la sb sa (Some NoMemory) e run = absurd (omega arith)
usage_at s o lb la sb sa (Some TurnsSpent) e run = absurd (omega arith)
usage_at s o lb la sb sa (Some (Live end)) e run = run.cause

-- an input has an error
bad_at : (s : CommandSpec) (o : PortOutcome) (lb la sb sa : Option (List ℕ)) (end : Option RunEnd) → code_of end ≡ 3 → Run s o lb la sb sa end → (place : Place) × (reason : Reason) × ReportedError s (Bad place reason) o.spent lb la sb sa
bad_at s o lb la sb sa None e run = absurd (omega arith)
bad_at s o lb la sb sa (Some Usage) e run = absurd (omega arith)
bad_at s o lb la sb sa (Some (Stopped (Bad place reason))) e run = (place, reason, (run.ended, run.taken, (run.took, run.at_end), run.cause, run.wrote))
bad_at s o lb la sb sa (Some (Stopped (AtLimit limit))) e run = absurd (omega arith)
bad_at s o lb la sb sa (Some (Stopped StampsSpent)) e run = absurd (omega arith)
bad_at s o lb la sb sa (Some ReadFault) e run = absurd (omega arith)
bad_at s o lb la sb sa (Some WriteFault) e run = absurd (omega arith)
bad_at s o lb la sb sa (Some NoMemory) e run = absurd (omega arith)
bad_at s o lb la sb sa (Some TurnsSpent) e run = absurd (omega arith)
bad_at s o lb la sb sa (Some (Live end)) e run = absurd run.cause

-- an input passes a limit
limit_at : (s : CommandSpec) (o : PortOutcome) (lb la sb sa : Option (List ℕ)) (end : Option RunEnd) → code_of end ≡ 6 → Run s o lb la sb sa end → (limit : Bound) × ReportedError s (AtLimit limit) o.spent lb la sb sa
limit_at s o lb la sb sa None e run = absurd (omega arith)
limit_at s o lb la sb sa (Some Usage) e run = absurd (omega arith)
limit_at s o lb la sb sa (Some (Stopped (Bad place reason))) e run = absurd (omega arith)
limit_at s o lb la sb sa (Some (Stopped (AtLimit limit))) e run = (limit, (run.ended, run.taken, (run.took, run.at_end), run.cause, run.wrote))
limit_at s o lb la sb sa (Some (Stopped StampsSpent)) e run = absurd (omega arith)
limit_at s o lb la sb sa (Some ReadFault) e run = absurd (omega arith)
limit_at s o lb la sb sa (Some WriteFault) e run = absurd (omega arith)
limit_at s o lb la sb sa (Some NoMemory) e run = absurd (omega arith)
limit_at s o lb la sb sa (Some TurnsSpent) e run = absurd (omega arith)
limit_at s o lb la sb sa (Some (Live end)) e run = absurd run.cause

-- no timestamp is left
stamps_spent_at : (s : CommandSpec) (o : PortOutcome) (lb la sb sa : Option (List ℕ)) (end : Option RunEnd) → code_of end ≡ 13 → Run s o lb la sb sa end → ReportedError s StampsSpent o.spent lb la sb sa
stamps_spent_at s o lb la sb sa None e run = absurd (omega arith)
stamps_spent_at s o lb la sb sa (Some Usage) e run = absurd (omega arith)
stamps_spent_at s o lb la sb sa (Some (Stopped (Bad place reason))) e run = absurd (omega arith)
stamps_spent_at s o lb la sb sa (Some (Stopped (AtLimit limit))) e run = absurd (omega arith)
stamps_spent_at s o lb la sb sa (Some (Stopped StampsSpent)) e run = (run.ended, run.taken, (run.took, run.at_end), run.cause, run.wrote)
stamps_spent_at s o lb la sb sa (Some ReadFault) e run = absurd (omega arith)
stamps_spent_at s o lb la sb sa (Some WriteFault) e run = absurd (omega arith)
stamps_spent_at s o lb la sb sa (Some NoMemory) e run = absurd (omega arith)
stamps_spent_at s o lb la sb sa (Some TurnsSpent) e run = absurd (omega arith)
stamps_spent_at s o lb la sb sa (Some (Live end)) e run = absurd run.cause

-- a run that nothing had stopped when the reading was cut off
cut_at : (s : CommandSpec) (text taken : List ℕ) (lb la sb sa : Option (List ℕ)) (ended : Bool) → ended ≡ false → lb ≡ prepend_known taken la → s.stop ended taken ≡ None → sa ≡ append_known sb (s.report ended taken ++ text) → ReportedCutoff s text lb la sb sa
cut_at s text taken lb la sb sa ended unended took going wrote =
    (taken, took, subst (λ b. s.stop b taken ≡ None) unended going, subst (λ b. sa ≡ append_known sb (s.report b taken ++ text)) unended wrote)

-- a read failed
read_fault_at : (s : CommandSpec) (o : PortOutcome) (lb la sb sa : Option (List ℕ)) (end : Option RunEnd) → code_of end ≡ 4 → Run s o lb la sb sa end → o.failed × ReportedCutoff s (codes "read fault\n") lb la sb sa
read_fault_at s o lb la sb sa None e run = absurd (omega arith)
read_fault_at s o lb la sb sa (Some Usage) e run = absurd (omega arith)
read_fault_at s o lb la sb sa (Some (Stopped (Bad place reason))) e run = absurd (omega arith)
read_fault_at s o lb la sb sa (Some (Stopped (AtLimit limit))) e run = absurd (omega arith)
read_fault_at s o lb la sb sa (Some (Stopped StampsSpent)) e run = absurd (omega arith)
read_fault_at s o lb la sb sa (Some ReadFault) e run = (run.cause.0, cut_at s (codes "read fault\n") run.taken lb la sb sa run.ended run.cause.1 run.took run.cause.2 run.wrote)
read_fault_at s o lb la sb sa (Some WriteFault) e run = absurd (omega arith)
read_fault_at s o lb la sb sa (Some NoMemory) e run = absurd (omega arith)
read_fault_at s o lb la sb sa (Some TurnsSpent) e run = absurd (omega arith)
read_fault_at s o lb la sb sa (Some (Live end)) e run = absurd run.cause

-- the input gave nothing
turns_spent_at : (s : CommandSpec) (o : PortOutcome) (lb la sb sa : Option (List ℕ)) (end : Option RunEnd) → code_of end ≡ 11 → Run s o lb la sb sa end → o.idled × ReportedCutoff s (codes "turns spent 1000000\n") lb la sb sa
turns_spent_at s o lb la sb sa None e run = absurd (omega arith)
turns_spent_at s o lb la sb sa (Some Usage) e run = absurd (omega arith)
turns_spent_at s o lb la sb sa (Some (Stopped (Bad place reason))) e run = absurd (omega arith)
turns_spent_at s o lb la sb sa (Some (Stopped (AtLimit limit))) e run = absurd (omega arith)
turns_spent_at s o lb la sb sa (Some (Stopped StampsSpent)) e run = absurd (omega arith)
turns_spent_at s o lb la sb sa (Some ReadFault) e run = absurd (omega arith)
turns_spent_at s o lb la sb sa (Some WriteFault) e run = absurd (omega arith)
turns_spent_at s o lb la sb sa (Some NoMemory) e run = absurd (omega arith)
turns_spent_at s o lb la sb sa (Some TurnsSpent) e run = (run.cause.0, cut_at s (codes "turns spent 1000000\n") run.taken lb la sb sa run.ended run.cause.1 run.took run.cause.2 run.wrote)
turns_spent_at s o lb la sb sa (Some (Live end)) e run = absurd run.cause

-- a write failed
write_fault_at : (s : CommandSpec) (o : PortOutcome) (lb la sb sa : Option (List ℕ)) (end : Option RunEnd) → code_of end ≡ 5 → Run s o lb la sb sa end → o.refused × (ended : Bool) × (taken : List ℕ) × Took o.spent lb la ended taken × (SentPrefix sb sa (text_so_far s ended taken) ⊎ ((would : Option RunEnd) × Cause s would o ended taken × SentPrefix sb sa (output_of s would ended taken)))
write_fault_at s o lb la sb sa None e run = absurd (omega arith)
write_fault_at s o lb la sb sa (Some Usage) e run = absurd (omega arith)
write_fault_at s o lb la sb sa (Some (Stopped (Bad place reason))) e run = absurd (omega arith)
write_fault_at s o lb la sb sa (Some (Stopped (AtLimit limit))) e run = absurd (omega arith)
write_fault_at s o lb la sb sa (Some (Stopped StampsSpent)) e run = absurd (omega arith)
write_fault_at s o lb la sb sa (Some ReadFault) e run = absurd (omega arith)
write_fault_at s o lb la sb sa (Some WriteFault) e run = (run.cause, run.ended, run.taken, (run.took, run.at_end), run.wrote)
write_fault_at s o lb la sb sa (Some NoMemory) e run = absurd (omega arith)
write_fault_at s o lb la sb sa (Some TurnsSpent) e run = absurd (omega arith)
write_fault_at s o lb la sb sa (Some (Live end)) e run = absurd run.cause

-- there was no memory
no_memory_at : (s : CommandSpec) (o : PortOutcome) (lb la sb sa : Option (List ℕ)) (end : Option RunEnd) → code_of end ≡ 7 → Run s o lb la sb sa end → (ended : Bool) × (taken : List ℕ) × Took o.spent lb la ended taken × SentPrefix sb sa (text_so_far s ended taken)
no_memory_at s o lb la sb sa None e run = absurd (omega arith)
no_memory_at s o lb la sb sa (Some Usage) e run = absurd (omega arith)
no_memory_at s o lb la sb sa (Some (Stopped (Bad place reason))) e run = absurd (omega arith)
no_memory_at s o lb la sb sa (Some (Stopped (AtLimit limit))) e run = absurd (omega arith)
no_memory_at s o lb la sb sa (Some (Stopped StampsSpent)) e run = absurd (omega arith)
no_memory_at s o lb la sb sa (Some ReadFault) e run = absurd (omega arith)
no_memory_at s o lb la sb sa (Some WriteFault) e run = absurd (omega arith)
no_memory_at s o lb la sb sa (Some NoMemory) e run = (run.ended, run.taken, (run.took, run.at_end), run.wrote)
no_memory_at s o lb la sb sa (Some TurnsSpent) e run = absurd (omega arith)
no_memory_at s o lb la sb sa (Some (Live end)) e run = absurd run.cause

-- what an input with observable contents has left fixes what was taken
taken_is : (taken other rest : List ℕ) (la : Option (List ℕ)) → Some (taken ++ rest) ≡ prepend_known other la → la ≡ Some rest → taken ++ rest ≡ other ++ rest
taken_is taken other rest la took left = let same : Some (taken ++ rest) ≡ Some (other ++ rest) = took ∙ ap (prepend_known other) left in cc

-- bytes that stop a run, seen at their end
stays_here : (s : CommandSpec) → Steady s → (ended : Bool) (taken : List ℕ) (stop : InputError) → s.stop false taken ≡ Some stop → (s.stop ended taken ≡ Some stop) × (s.report ended taken ≡ s.report false taken)
stays_here s steady ended taken stop stops = subst (λ bytes. (s.stop ended bytes ≡ Some stop) × (s.report ended bytes ≡ s.report false taken)) (append-nil taken) (steady.stays ended taken [] stop stops)

goes_not : {P : Type 0} (s : CommandSpec) → Steady s → (ended : Bool) (taken : List ℕ) (stop : InputError) → s.stop false taken ≡ Some stop → s.stop ended taken ≡ None → P
goes_not s steady ended taken stop stops going = let never : None ≡ Some stop = sym going ∙ (stays_here s steady ended taken stop stops).0 in cc

reported_error : (s : CommandSpec) → Steady s → (taken : List ℕ) (ended : Bool) (stop other : InputError) (code : ℕ) (sb sa : Option (List ℕ)) → s.stop false taken ≡ Some stop → s.stop ended taken ≡ Some other → code ≡ error_code other → sa ≡ append_known sb (s.report ended taken ++ error_text other) → OrFails (error_code stop) (s.report false taken ++ error_text stop) code sb sa
reported_error s steady taken ended stop other code sb sa stops stopped is wrote =
    let stays = stays_here s steady ended taken stop stops in
    let both : Some other ≡ Some stop = sym stopped ∙ stays.0 in
    let same : other ≡ stop = cc both in
    inl (
      is ∙ ap error_code same,
      wrote ∙ ap (λ text. append_known sb (text ++ error_text other)) stays.1 ∙ ap (λ t. append_known sb (s.report false taken ++ error_text t)) same,
    )

-- if the bytes taken stop a run
stops_taken : (s : CommandSpec) → Steady s → (o : PortOutcome) (lb la sb sa : Option (List ℕ)) (end : Option RunEnd) (stop : InputError) (run : Run s o lb la sb sa end) → s.stop false run.taken ≡ Some stop → OrFails (error_code stop) (s.report false run.taken ++ error_text stop) (code_of end) sb sa
stops_taken s steady o lb la sb sa None stop run stops = goes_not s steady run.ended run.taken stop stops run.cause.1
stops_taken s steady o lb la sb sa (Some Usage) stop run stops = absurd run.cause
stops_taken s steady o lb la sb sa (Some (Stopped other)) stop run stops = reported_error s steady run.taken run.ended stop other (error_code other) sb sa stops run.cause refl run.wrote
stops_taken s steady o lb la sb sa (Some ReadFault) stop run stops = goes_not s steady run.ended run.taken stop stops run.cause.2
stops_taken s steady o lb la sb sa (Some WriteFault) stop run stops = inr (inl refl)
stops_taken s steady o lb la sb sa (Some NoMemory) stop run stops = inr (inr refl)
stops_taken s steady o lb la sb sa (Some TurnsSpent) stop run stops = goes_not s steady run.ended run.taken stop stops run.cause.2
stops_taken s steady o lb la sb sa (Some (Live end)) stop run stops = absurd run.cause

-- the same for an input with observable contents
stops_at : (s : CommandSpec) → Steady s → (o : PortOutcome) (lb la sb sa : Option (List ℕ)) (end : Option RunEnd) (stop : InputError) (taken rest : List ℕ) → lb ≡ Some (taken ++ rest) → la ≡ Some rest → s.stop false taken ≡ Some stop → Run s o lb la sb sa end → OrFails (error_code stop) (s.report false taken ++ error_text stop) (code_of end) sb sa
stops_at s steady o lb la sb sa end stop taken rest reported left stops run =
    let same : taken ≡ run.taken = append_cancel_right taken run.taken rest (taken_is taken run.taken rest la (sym reported ∙ run.took) left) in
    subst (λ bytes. OrFails (error_code stop) (s.report false bytes ++ error_text stop) (code_of end) sb sa) (sym same)
    (stops_taken s steady o lb la sb sa end stop run (subst (λ bytes. s.stop false bytes ≡ Some stop) same stops))

-- what is left of an input with observable contents
reported_split : (bytes taken : List ℕ) (after : Option (List ℕ)) → Some bytes ≡ prepend_known taken after → (rest : List ℕ) × (after ≡ Some rest) × (bytes ≡ taken ++ rest)
reported_split bytes taken None e = cc
reported_split bytes taken (Some rest) e = (rest, refl, cc)

-- an input that was read to its end was taken whole
pub whole_taken : (bytes taken : List ℕ) (lb la : Option (List ℕ)) → lb ≡ Some bytes → lb ≡ prepend_known taken la → IsSpent la → bytes ≡ taken
whole_taken bytes taken lb la reported took spent =
    let (rest, left, parts) = reported_split bytes taken la (sym reported ∙ took) in
    parts ∙ ap (λ more. taken ++ more) (subst IsSpent left spent) ∙ append-nil taken

-- bytes that stopped a run do so in the whole input
whole_stopped : (s : CommandSpec) → Steady s → (spent : Type 0) (bytes taken : List ℕ) (lb la : Option (List ℕ)) (ended : Bool) (stop : InputError) → lb ≡ Some bytes → lb ≡ prepend_known taken la → (IsTrue ended → spent) → (spent → IsSpent la) → s.stop ended taken ≡ Some stop → (s.stop true bytes ≡ Some stop) × (s.report true bytes ≡ s.report ended taken)
whole_stopped s steady spent bytes taken lb la true stop reported took at_end nothing stops =
    let same = whole_taken bytes taken lb la reported took (nothing (at_end refl)) in
    (ap (s.stop true) same ∙ stops, ap (s.report true) same)
whole_stopped s steady spent bytes taken lb la false stop reported took at_end nothing stops =
    let (rest, left, parts) = reported_split bytes taken la (sym reported ∙ took) in
    let stays = steady.stays true taken rest stop stops in
    (ap (s.stop true) parts ∙ stays.0, ap (s.report true) parts ∙ stays.1)

-- how a run over a whole input ends
abbrev pub Whole : CommandSpec → List ℕ → ℕ → Option (List ℕ) → Option (List ℕ) → Type 0
Whole s bytes code sb sa = OrFails (code_of (end_of (s.stop true bytes))) (output_of s (end_of (s.stop true bytes)) true bytes) code sb sa

whole_at_stop : (s : CommandSpec) (bytes : List ℕ) (found : Option InputError) (code : ℕ) (sb sa : Option (List ℕ)) → s.stop true bytes ≡ found → OrFails (code_of (end_of found)) (output_of s (end_of found) true bytes) code sb sa → Whole s bytes code sb sa
whole_at_stop s bytes found code sb sa same there = subst (λ f. OrFails (code_of (end_of f)) (output_of s (end_of f) true bytes) code sb sa) (sym same) there

whole_at : (s : CommandSpec) → Steady s → (o : PortOutcome) (lb la sb sa : Option (List ℕ)) (end : Option RunEnd) (bytes : List ℕ) → lb ≡ Some bytes → (o.spent → IsSpent la) → ¬ o.failed → ¬ o.idled → Run s o lb la sb sa end → Whole s bytes (code_of end) sb sa
whole_at s steady o lb la sb sa None bytes reported nothing sound busy run =
    let ended = run.cause.0 in
    let same = whole_taken bytes run.taken lb la reported run.took (nothing (run.at_end ended)) in
    whole_at_stop s bytes None 0 sb sa (ap (s.stop true) same ∙ ap (λ b. s.stop b run.taken) (sym ended) ∙ run.cause.1)
    (inl (refl, run.wrote ∙ ap (λ b. append_known sb (s.report b run.taken ++ s.closing run.taken)) ended ∙ ap (λ t. append_known sb (s.report true t ++ s.closing t)) (sym same)))
whole_at s steady o lb la sb sa (Some Usage) bytes reported nothing sound busy run = absurd run.cause
whole_at s steady o lb la sb sa (Some (Stopped stop)) bytes reported nothing sound busy run =
    let there = whole_stopped s steady o.spent bytes run.taken lb la run.ended stop reported run.took run.at_end nothing run.cause in
    whole_at_stop s bytes (Some stop) (error_code stop) sb sa there.0
    (inl (refl, run.wrote ∙ ap (λ text. append_known sb (text ++ error_text stop)) (sym there.1)))
whole_at s steady o lb la sb sa (Some ReadFault) bytes reported nothing sound busy run = absurd (sound run.cause.0)
whole_at s steady o lb la sb sa (Some WriteFault) bytes reported nothing sound busy run = inr (inl refl)
whole_at s steady o lb la sb sa (Some NoMemory) bytes reported nothing sound busy run = inr (inr refl)
whole_at s steady o lb la sb sa (Some TurnsSpent) bytes reported nothing sound busy run = absurd (busy run.cause.0)
whole_at s steady o lb la sb sa (Some (Live end)) bytes reported nothing sound busy run = absurd run.cause

-- nothing but memory keeps a run that nothing stops from its end
complete_at : (s : CommandSpec) → Steady s → (o : PortOutcome) (lb la sb sa : Option (List ℕ)) (end : Option RunEnd) (bytes : List ℕ) → lb ≡ Some bytes → (o.spent → IsSpent la) → s.stop true bytes ≡ None → ¬ o.failed → ¬ o.idled → ¬ o.refused → Run s o lb la sb sa end → (code_of end ≡ 0) ⊎ (code_of end ≡ 7)
complete_at s steady o lb la sb sa end bytes reported nothing going sound busy taking run =
    elim (whole_at s steady o lb la sb sa end bytes reported nothing sound busy run) [
      | inl done ↦ inl (done.0 ∙ ap (λ stop. code_of (end_of stop)) going)
      | inr other ↦ elim other [
        | inl refused ↦ absurd (taking (write_fault_at s o lb la sb sa end refused run).0)
        | inr memory ↦ inr memory
      ]
    ]

-- all that a command promises follows from one run
pub promised : (s : CommandSpec) → Steady s → (o : PortOutcome) (lb la sb sa : Option (List ℕ)) (end : Option RunEnd) → (o.spent → IsSpent la) → Run s o lb la sb sa end → Promises s o lb la sb sa (code_of end)
promised s steady o lb la sb sa end nothing run = record {
  done = λ e. done_at s o lb la sb sa end e run;
  not_usage = λ e. usage_at s o lb la sb sa end e run;
  bad = λ e. bad_at s o lb la sb sa end e run;
  limit = λ e. limit_at s o lb la sb sa end e run;
  stamps_spent = λ e. stamps_spent_at s o lb la sb sa end e run;
  stops = λ stop taken rest reported left stops. stops_at s steady o lb la sb sa end stop taken rest reported left stops run;
  read_fault = λ e. read_fault_at s o lb la sb sa end e run;
  turns_spent = λ e. turns_spent_at s o lb la sb sa end e run;
  write_fault = λ e. write_fault_at s o lb la sb sa end e run;
  no_memory = λ e. no_memory_at s o lb la sb sa end e run;
  determined = λ bytes reported sound busy. whole_at s steady o lb la sb sa end bytes reported nothing sound busy run;
  complete = λ bytes reported going sound busy taking. complete_at s steady o lb la sb sa end bytes reported nothing going sound busy taking run;
  run = (end, refl, run);
}
