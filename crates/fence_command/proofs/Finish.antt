-- How a run ends once its file was read to the end.
use Rattle.std.proofs.Common.{◌≡◌, ◌⊎◌, inl, inr, ◌∙◌, ℕ, true, List, refl, sym, ap, subst, Option, Some, None, Result, Ok, Err, IsErrOf, IfErr, OnOk}
use Rattle.std.specs.Result.{result_err}
use Rattle.std.specs.Io.KnownBytes.{append_known}
use Rattle.mav_ports.specs.Counts.{Rose}
use Rattle.mav_ports.specs.Puts.{SentPrefix}
use Rattle.mav_ports.proofs.Known.{append_known_nil, sent_start}
use Rattle.run_status.specs.declared.input_errors.InputError.{InputError}
use Rattle.run_status.specs.declared.run_ends.RunEnd.{RunEnd}
use Rattle.run_status.specs.declared.run_ends.RunEnd.TheVariants.{Stopped, WriteFault, NoMemory}
use Rattle.run_status.specs.Runs.{PortOutcome, port_outcome, end_of, RunBeforeStatus}
use Rattle.command_inputs.specs.Takers.{Read}
use Rattle.fence_command.specs.FenceFile.{FileState}
use Rattle.fence_command.specs.FenceText.{fence_text}
use Rattle.fence_command.specs.Spec.{fence_read, stop_of, plans_stop, fence_spec, HoldsState}

-- ---- a plan isn't sound

by_plans : (o : PortOutcome) (lb la sent : Option (List ℕ)) (file : FileState) → HoldsState o.spent lb la file → (run_end : RunEnd) (found : Option InputError) → plans_stop file ≡ found → Some run_end ≡ end_of found → RunBeforeStatus fence_spec o lb la sent sent (Some run_end)
by_plans o lb la sent file held run_end None e halts = absurd (cc)
by_plans o lb la sent file held run_end (Some stop) e halts =
    let same : Stopped stop ≡ run_end = cc in
    subst (λ (end : RunEnd). RunBeforeStatus fence_spec o lb la sent sent (Some end)) same
    (record { taken = held.taken; ended = true; took = held.took; at_end = λ _. held.at_end; cause = ap (stop_of true) held.gives ∙ e; wrote = append_known_nil sent })

pub plan_halts : (o : PortOutcome) (lb la sent : Option (List ℕ)) (file : FileState) → HoldsState o.spent lb la file → (run_end : RunEnd) → Some run_end ≡ end_of (plans_stop file) → RunBeforeStatus fence_spec o lb la sent sent (Some run_end)
plan_halts o lb la sent file held run_end halts = by_plans o lb la sent file held run_end (plans_stop file) refl halts

-- ---- the report was written, or it wasn't

none_of : (found : Option InputError) → None ≡ end_of found → found ≡ None
none_of None e = refl
none_of (Some stop) e = absurd (let bad : None ≡ Some (Stopped stop) = e in cc)

abbrev Finished : Type 0 → ℕ → ℕ → ℕ → ℕ → ℕ → ℕ → (lb la sb sa : Option (List ℕ)) → Option RunEnd → Type 0
Finished spent fb fa ib ia rb ra lb la sb sa end = RunBeforeStatus fence_spec (port_outcome spent fb fa ib ia rb ra) lb la sb sa end

module _ (spent : Type 0) (fb fa ib ia rb ra : ℕ) (lb la sb sa : Option (List ℕ)) (file : FileState) (held : HoldsState spent lb la file) where
  the_text : fence_text file ≡ fence_text (fence_read true held.taken).state
  the_text = ap (λ (r : Read FileState). fence_text r.state) (sym held.gives)

  ended_by : (run_end : RunEnd) → (run_end ≡ WriteFault) ⊎ (run_end ≡ NoMemory) → (run_end ≡ WriteFault → Rose rb ra × SentPrefix sb sa (fence_text file)) → (run_end ≡ NoMemory → sa ≡ sb)
      → Finished spent fb fa ib ia rb ra lb la sb sa (Some run_end)
  ended_by run_end (inl e) refused unsent =
      subst (λ (end : RunEnd). Finished spent fb fa ib ia rb ra lb la sb sa (Some end)) (sym e)
      (record { taken = held.taken; ended = true; took = held.took; at_end = λ _. held.at_end; cause = (refused e).0; wrote = subst (λ (text : List ℕ). SentPrefix sb sa text) the_text (refused e).1 })
  ended_by run_end (inr e) refused unsent =
      subst (λ (end : RunEnd). Finished spent fb fa ib ia rb ra lb la sb sa (Some end)) (sym e)
      (record {
        taken = held.taken;
        ended = true;
        took = held.took;
        at_end = λ _. held.at_end;
        cause = tt;
        wrote = subst (λ (known : Option (List ℕ)). SentPrefix sb known (fence_text (fence_read true held.taken).state)) (sym (unsent e)) (fence_text (fence_read true held.taken).state, sent_start sb (fence_text (fence_read true held.taken).state));
      })

  pub finished : (result : Result (Unit {0}) RunEnd) → None ≡ end_of (plans_stop file)
      → OnOk result (sa ≡ append_known sb (fence_text file))
      → (IsErrOf result WriteFault → Rose rb ra × SentPrefix sb sa (fence_text file))
      → (IsErrOf result NoMemory → sa ≡ sb)
      → IfErr result (λ e. (e ≡ WriteFault) ⊎ (e ≡ NoMemory))
      → Finished spent fb fa ib ia rb ra lb la sb sa (result_err result)
  finished (Ok done) sound reported refused unsent errors =
      record {
        taken = held.taken;
        ended = true;
        took = held.took;
        at_end = λ _. held.at_end;
        cause = (refl, ap (stop_of true) held.gives ∙ none_of (plans_stop file) sound);
        wrote = reported ∙ ap (append_known sb) the_text;
      }
  finished (Err run_end) sound reported refused unsent errors = ended_by run_end errors (λ e. refused (ap Err e)) (λ e. unsent (ap Err e))
