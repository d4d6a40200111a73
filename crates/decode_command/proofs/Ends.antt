-- How a run ends, before the text of its status, whatever is told of its input.
use Rattle.std.proofs.Common.{◌≡◌, ◌<◌, ◌≤◌, ◌+◌, ◌∙◌, ◌⊎◌, inl, inr, ℕ, if◌then◌else◌, Bool, true, false, List, ◌++◌, length, take, refl, sym, ap, subst, arith, length-append, length-take, Option, Some, None, Result, Ok, Err, OnOk, IfErr, IsErrOf, IsTrue}
use Rattle.std.proofs.Math.Seq.{take-append-add}
use Rattle.std.proofs.lemmas.List.{take-take}
use Rattle.std.proofs.lemmas.Bool.{lt-ltb, le-ltb}
use Rattle.std.specs.Result.{result_err}
use Rattle.std.specs.Io.KnownBytes.{append_known, prepend_known}
use Rattle.mav_ports.specs.Puts.{SentPrefix}
use Rattle.run_status.specs.declared.run_ends.RunEnd.{RunEnd}
use Rattle.run_status.specs.declared.run_ends.RunEnd.TheVariants.{Stopped, ReadFault, WriteFault, NoMemory, TurnsSpent}
use Rattle.run_status.specs.declared.input_errors.Bound.TheVariants.{InputBytes}
use Rattle.run_status.specs.declared.input_errors.InputError.TheVariants.{AtLimit}
use Rattle.run_status.specs.Runs.{PortOutcome, RunBeforeStatus}
use Rattle.decode_command.specs.Tellings.{Telling, most_input_bytes, telling_spec}

module _ (t : Telling) where
  -- within the limit nothing stops a run, and all is told
  goes_on : (ended : Bool) (taken : List ℕ) → length taken ≤ most_input_bytes → (telling_spec t).stop ended taken ≡ None
  goes_on ended taken fits = ap (λ (b : Bool). if b then Some (AtLimit InputBytes) else None) (le-ltb most_input_bytes (length taken) fits)

  report_within : (ended : Bool) (taken : List ℕ) → length taken ≤ most_input_bytes → (telling_spec t).report ended taken ≡ t.told ended taken
  report_within ended taken fits = ap (λ (b : Bool). if b then t.told false (take most_input_bytes taken) else t.told ended taken) (le-ltb most_input_bytes (length taken) fits)

  -- past it a run stops, and what is told up to it is written
  pub stops : (ended : Bool) (taken : List ℕ) → most_input_bytes < length taken → (telling_spec t).stop ended taken ≡ Some (AtLimit InputBytes)
  stops ended taken long = ap (λ (b : Bool). if b then Some (AtLimit InputBytes) else None) (lt-ltb most_input_bytes (length taken) long)

  pub report_past : (ended : Bool) (taken : List ℕ) → most_input_bytes < length taken → (telling_spec t).report ended taken ≡ t.told false (take most_input_bytes taken)
  report_past ended taken long = ap (λ (b : Bool). if b then t.told false (take most_input_bytes taken) else t.told ended taken) (lt-ltb most_input_bytes (length taken) long)

  module _ (o : PortOutcome) (lb la sb sa : Option (List ℕ)) where
    not_ended : IsTrue false → o.spent
    not_ended never = absurd (cc never)

    -- a read failed, or the input gave nothing for too long
    pub untold_fault : (taken : List ℕ) → lb ≡ prepend_known taken la → length taken ≤ most_input_bytes → sa ≡ append_known sb (t.told false taken) → o.failed → RunBeforeStatus (telling_spec t) o lb la sb sa (Some ReadFault)
    untold_fault taken took fits sent failed = record {
      taken = taken;
      ended = false;
      took = took;
      at_end = not_ended;
      cause = (failed, refl, goes_on false taken fits);
      wrote = sent ∙ ap (append_known sb) (sym (report_within false taken fits));
    }

    pub untold_idle : (taken : List ℕ) → lb ≡ prepend_known taken la → length taken ≤ most_input_bytes → sa ≡ append_known sb (t.told false taken) → o.idled → RunBeforeStatus (telling_spec t) o lb la sb sa (Some TurnsSpent)
    untold_idle taken took fits sent idled = record {
      taken = taken;
      ended = false;
      took = took;
      at_end = not_ended;
      cause = (idled, refl, goes_on false taken fits);
      wrote = sent ∙ ap (append_known sb) (sym (report_within false taken fits));
    }

    -- more bytes were read than the limit allows
    pub untold_limit : (taken : List ℕ) → lb ≡ prepend_known taken la → most_input_bytes < length taken → sa ≡ append_known sb (t.told false (take most_input_bytes taken)) → RunBeforeStatus (telling_spec t) o lb la sb sa (Some (Stopped (AtLimit InputBytes)))
    untold_limit taken took long sent = record {
      taken = taken;
      ended = false;
      took = took;
      at_end = not_ended;
      cause = stops false taken long;
      wrote = sent ∙ ap (append_known sb) (sym (report_past false taken long));
    }

    -- the writing halted
    untold_halted : (taken : List ℕ) (halt : RunEnd) → lb ≡ prepend_known taken la → (halt ≡ WriteFault) ⊎ (halt ≡ NoMemory) → (halt ≡ WriteFault → o.refused) → SentPrefix sb sa ((telling_spec t).report false taken) → RunBeforeStatus (telling_spec t) o lb la sb sa (Some halt)
    untold_halted taken halt took (inl is) refused front =
        subst (λ (h : RunEnd). RunBeforeStatus (telling_spec t) o lb la sb sa (Some h)) (sym is)
        (record { taken = taken; ended = false; took = took; at_end = not_ended; cause = refused is; wrote = front })
    untold_halted taken halt took (inr is) refused front =
        subst (λ (h : RunEnd). RunBeforeStatus (telling_spec t) o lb la sb sa (Some h)) (sym is)
        (record { taken = taken; ended = false; took = took; at_end = not_ended; cause = tt; wrote = front })

    pub untold_within : (taken : List ℕ) (halt : RunEnd) → lb ≡ prepend_known taken la → length taken ≤ most_input_bytes → (halt ≡ WriteFault) ⊎ (halt ≡ NoMemory) → (halt ≡ WriteFault → o.refused) → SentPrefix sb sa (t.told false taken) → RunBeforeStatus (telling_spec t) o lb la sb sa (Some halt)
    untold_within taken halt took fits error refused front =
        untold_halted taken halt took error refused (subst (SentPrefix sb sa) (sym (report_within false taken fits)) front)

    pub untold_past : (taken : List ℕ) (halt : RunEnd) → lb ≡ prepend_known taken la → most_input_bytes < length taken → (halt ≡ WriteFault) ⊎ (halt ≡ NoMemory) → (halt ≡ WriteFault → o.refused) → SentPrefix sb sa (t.told false (take most_input_bytes taken)) → RunBeforeStatus (telling_spec t) o lb la sb sa (Some halt)
    untold_past taken halt took long error refused front =
        untold_halted taken halt took error refused (subst (SentPrefix sb sa) (sym (report_past false taken long)) front)

    -- the input ended
    whole_text : (taken : List ℕ) → length taken ≤ most_input_bytes → (telling_spec t).report true taken ++ t.closing taken ≡ t.told true taken ++ t.closing taken
    whole_text taken fits = ap (λ (text : List ℕ). text ++ t.closing taken) (report_within true taken fits)

    untold_unfinished : (taken : List ℕ) (halt : RunEnd) → lb ≡ prepend_known taken la → o.spent → length taken ≤ most_input_bytes → (halt ≡ WriteFault) ⊎ (halt ≡ NoMemory) → (halt ≡ WriteFault → o.refused) → SentPrefix sb sa (t.told true taken ++ t.closing taken) → RunBeforeStatus (telling_spec t) o lb la sb sa (Some halt)
    untold_unfinished taken halt took spent fits (inl is) refused front =
        subst (λ (h : RunEnd). RunBeforeStatus (telling_spec t) o lb la sb sa (Some h)) (sym is)
        (record { taken = taken; ended = true; took = took; at_end = λ e. spent; cause = refused is; wrote = subst (SentPrefix sb sa) (sym (whole_text taken fits)) front })
    untold_unfinished taken halt took spent fits (inr is) refused front =
        subst (λ (h : RunEnd). RunBeforeStatus (telling_spec t) o lb la sb sa (Some h)) (sym is)
        (record { taken = taken; ended = true; took = took; at_end = λ e. spent; cause = tt; wrote = subst (SentPrefix sb sa) (sym (whole_text taken fits)) front })

    pub untold_end : (taken : List ℕ) (r : Result (Unit {0}) RunEnd) → lb ≡ prepend_known taken la → o.spent → length taken ≤ most_input_bytes → OnOk r (sa ≡ append_known sb (t.told true taken ++ t.closing taken)) → IfErr r (λ halt. SentPrefix sb sa (t.told true taken ++ t.closing taken)) → IfErr r (λ halt. (halt ≡ WriteFault) ⊎ (halt ≡ NoMemory)) → (IsErrOf r WriteFault → o.refused) → RunBeforeStatus (telling_spec t) o lb la sb sa (result_err r)
    untold_end taken (Ok x) took spent fits done unfinished error refused = record {
      taken = taken;
      ended = true;
      took = took;
      at_end = λ e. spent;
      cause = (refl, goes_on true taken fits);
      wrote = done ∙ ap (append_known sb) (sym (whole_text taken fits));
    }
    untold_end taken (Err halt) took spent fits done unfinished error refused =
        untold_unfinished taken halt took spent fits error (λ e. refused (ap Err e)) unfinished

-- the bytes up to the limit
up_to_limit : (taken piece : List ℕ) (left : ℕ) → length taken + left ≡ most_input_bytes → take most_input_bytes (taken ++ piece) ≡ taken ++ take left piece
up_to_limit taken piece left e =
    ap (λ (n : ℕ). take n (taken ++ piece)) (sym e) ∙ take-append-add taken piece left

-- a read of so many bytes
pub read_length : (taken buf : List ℕ) (count : ℕ) → count ≤ length buf → length (taken ++ take count buf) ≡ length taken + count
read_length taken buf count h = omega (arith, length-append taken (take count buf), length-take count buf)

-- those up to the limit
pub limited : (taken buf : List ℕ) (count left : ℕ) → left ≤ count → length taken + left ≡ most_input_bytes → take most_input_bytes (taken ++ take count buf) ≡ taken ++ take left buf
limited taken buf count left h e =
    up_to_limit taken (take count buf) left e ∙ ap (λ (bytes : List ℕ). taken ++ bytes) (take-take left count buf h)

-- a run that tells the same
pub same_run : (t u : Telling) (o : PortOutcome) (lb la sb sa : Option (List ℕ)) (end : Option RunEnd) → t ≡ u → RunBeforeStatus (telling_spec t) o lb la sb sa end → RunBeforeStatus (telling_spec u) o lb la sb sa end
same_run t u o lb la sb sa end same run = subst (λ (z : Telling). RunBeforeStatus (telling_spec z) o lb la sb sa end) same run
