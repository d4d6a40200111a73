-- How a run comes to its end, before and after the text of its status.
use Rattle.std.proofs.Common.{◌≡◌, ◌≢◌, ◌∙◌, inl, inr, ℕ, Bool, true, false, List, [], ◌∷◌, ◌++◌, refl, sym, subst, arith, ap, Option, Some, None, Result, Ok, Err, IsErrOf, append-nil}
use Rattle.std.specs.Result.{result_err}
use Rattle.std.specs.Io.KnownBytes.{append_known, prepend_known}
use Rattle.mav_ports.specs.Counts.{Rose}
use Rattle.mav_ports.specs.Puts.{SentPrefix}
use Rattle.mav_ports.proofs.Known.{append_known_twice, append_known_nil, sent_in, sent_start, prepend_known_nil, prepend_known_twice}
use Rattle.run_status.specs.declared.run_ends.RunEnd.{RunEnd}
use Rattle.run_status.specs.declared.run_ends.RunEnd.TheVariants.{Usage, Stopped, ReadFault, WriteFault, NoMemory, TurnsSpent, Live}
use Rattle.run_status.specs.Endings.{text_of}
use Rattle.run_status.specs.Runs.{CommandSpec, PortOutcome, port_outcome, text_so_far, Cause, Wrote, Run, WroteReport, RunBeforeStatus}
use Rattle.run_status.specs.StatusText.{StatusWritten, WritesStatus}

-- a report that was written is a prefix of the text so far
pub report_front : (s : CommandSpec) (ended : Bool) (taken : List ℕ) (sb sa : Option (List ℕ)) → sa ≡ append_known sb (s.report ended taken) → SentPrefix sb sa (text_so_far s ended taken)
report_front s true taken sb sa sent = (s.closing taken, record { part = s.report true taken; whole = refl; appended = sent })
report_front s false taken sb sa sent = ([], record { part = s.report false taken; whole = append-nil (s.report false taken); appended = sent })

-- nothing was taken, and there was no memory
pub before_status_nothing : (s : CommandSpec) (o : PortOutcome) (lb sb : Option (List ℕ)) → RunBeforeStatus s o lb lb sb sb (Some NoMemory)
before_status_nothing s o lb sb = record { taken = []; ended = false; took = sym (prepend_known_nil lb); at_end = λ never. absurd (cc never); cause = tt; wrote = (text_so_far s false [], sent_start sb (text_so_far s false [])) }

-- text after text
pub behind : (sb sm sa : Option (List ℕ)) (first second : List ℕ) → sm ≡ append_known sb first → sa ≡ append_known sm second → sa ≡ append_known sb (first ++ second)
behind sb sm sa first second e f = f ∙ ap (λ known. append_known known second) e ∙ append_known_twice sb first second

pub front_same : (sb sm sa : Option (List ℕ)) (text : List ℕ) → SentPrefix sb sm text → sa ≡ append_known sm [] → SentPrefix sb sa text
front_same sb sm sa text front e = subst (λ known. SentPrefix sb known text) (append_known_nil sm ∙ sym e) front

-- a prefix of one text after another
pub behind_front : (sb sm sa : Option (List ℕ)) (first second : List ℕ) → sm ≡ append_known sb first → SentPrefix sm sa second → SentPrefix sb sa (first ++ second)
behind_front sb sm sa first second e (rest, part) =
    (rest ++ [], sent_in sb sm sa (first ++ second) second [] rest (record { part = first; whole = ap (λ text. first ++ text) (append-nil second); appended = e }) part)

first_nil : (xs ys : List ℕ) → xs ++ ys ≡ [] → xs ≡ []
first_nil [] ys e = refl
first_nil (x ∷ xs) ys e = cc

nothing_more : (sb sm sa : Option (List ℕ)) (text : List ℕ) → SentPrefix sb sm text → SentPrefix sm sa [] → SentPrefix sb sa text
nothing_more sb sm sa text front (rest, s) = front_same sb sm sa text front (s.appended ∙ ap (append_known sm) (first_nil s.part rest s.whole))

-- the status's text was written
wrote_said : (s : CommandSpec) (o : PortOutcome) (ended : Bool) (taken : List ℕ) (sb sm sa : Option (List ℕ)) (run_end : RunEnd) → WroteReport s (Some run_end) ended taken sb sm → sa ≡ append_known sm (text_of run_end) → Wrote s (Some run_end) o ended taken sb sa
wrote_said s o ended taken sb sm sa Usage never said = never
wrote_said s o ended taken sb sm sa (Stopped stop) sent said = behind sb sm sa (s.report ended taken) (text_of (Stopped stop)) sent said
wrote_said s o ended taken sb sm sa ReadFault sent said = behind sb sm sa (s.report ended taken) (text_of ReadFault) sent said
wrote_said s o ended taken sb sm sa WriteFault front said = inl (front_same sb sm sa (text_so_far s ended taken) front said)
wrote_said s o ended taken sb sm sa NoMemory front said = front_same sb sm sa (text_so_far s ended taken) front said
wrote_said s o ended taken sb sm sa TurnsSpent sent said = behind sb sm sa (s.report ended taken) (text_of TurnsSpent) sent said
wrote_said s o ended taken sb sm sa (Live end) never said = never

unsaid_front : (s : CommandSpec) (run_end : RunEnd) (ended : Bool) (taken : List ℕ) (sb sa : Option (List ℕ)) → WroteReport s (Some run_end) ended taken sb sa → SentPrefix sb sa (text_so_far s ended taken)
unsaid_front s Usage ended taken sb sa never = absurd never
unsaid_front s (Stopped stop) ended taken sb sa sent = report_front s ended taken sb sa sent
unsaid_front s ReadFault ended taken sb sa sent = report_front s ended taken sb sa sent
unsaid_front s WriteFault ended taken sb sa front = front
unsaid_front s NoMemory ended taken sb sa front = front
unsaid_front s TurnsSpent ended taken sb sa sent = report_front s ended taken sb sa sent
unsaid_front s (Live end) ended taken sb sa never = absurd never

rose_twice : (rb rm ra : ℕ) → Rose rb rm → Rose rm ra → Rose rb ra
rose_twice rb rm ra first second = grind (arith, first, second)

-- the count of the output's faults rose in the run too
refused_now : (s : CommandSpec) (spent : Type 0) (fb fa ib ia rb rm ra : ℕ) (ended : Bool) (taken : List ℕ) (run_end : RunEnd) → Cause s (Some run_end) (port_outcome spent fb fa ib ia rb rm) ended taken → (run_end ≢ WriteFault → rm ≡ rb) → Rose rm ra → Rose rb ra
refused_now s spent fb fa ib ia rb rm ra ended taken Usage never sound rose = absurd never
refused_now s spent fb fa ib ia rb rm ra ended taken (Stopped stop) cause sound rose = subst (λ n. Rose n ra) (sound (λ e. cc)) rose
refused_now s spent fb fa ib ia rb rm ra ended taken ReadFault cause sound rose = subst (λ n. Rose n ra) (sound (λ e. cc)) rose
refused_now s spent fb fa ib ia rb rm ra ended taken WriteFault cause sound rose = rose_twice rb rm ra cause rose
refused_now s spent fb fa ib ia rb rm ra ended taken NoMemory cause sound rose = subst (λ n. Rose n ra) (sound (λ e. cc)) rose
refused_now s spent fb fa ib ia rb rm ra ended taken TurnsSpent cause sound rose = subst (λ n. Rose n ra) (sound (λ e. cc)) rose
refused_now s spent fb fa ib ia rb rm ra ended taken (Live end) cause sound rose = absurd cause

-- the output refused the status's text
refused_wrote : (s : CommandSpec) (spent : Type 0) (fb fa ib ia rb rm ra : ℕ) (ended : Bool) (taken : List ℕ) (sb sm sa : Option (List ℕ)) (run_end : RunEnd) → Cause s (Some run_end) (port_outcome spent fb fa ib ia rb rm) ended taken → WroteReport s (Some run_end) ended taken sb sm → SentPrefix sm sa (text_of run_end) → Wrote s (Some WriteFault) (port_outcome spent fb fa ib ia rb ra) ended taken sb sa
refused_wrote s spent fb fa ib ia rb rm ra ended taken sb sm sa Usage never same front = absurd never
refused_wrote s spent fb fa ib ia rb rm ra ended taken sb sm sa (Stopped stop) cause sent front = inr (Some (Stopped stop), cause, behind_front sb sm sa (s.report ended taken) (text_of (Stopped stop)) sent front)
refused_wrote s spent fb fa ib ia rb rm ra ended taken sb sm sa ReadFault cause sent front = inr (Some ReadFault, cause, behind_front sb sm sa (s.report ended taken) (text_of ReadFault) sent front)
refused_wrote s spent fb fa ib ia rb rm ra ended taken sb sm sa WriteFault cause sent front = inl (nothing_more sb sm sa (text_so_far s ended taken) sent front)
refused_wrote s spent fb fa ib ia rb rm ra ended taken sb sm sa NoMemory cause sent front = inl (nothing_more sb sm sa (text_so_far s ended taken) sent front)
refused_wrote s spent fb fa ib ia rb rm ra ended taken sb sm sa TurnsSpent cause sent front = inr (Some TurnsSpent, cause, behind_front sb sm sa (s.report ended taken) (text_of TurnsSpent) sent front)
refused_wrote s spent fb fa ib ia rb rm ra ended taken sb sm sa (Live end) cause sent front = absurd cause

run_halted : (s : CommandSpec) (spent : Type 0) (fb fa ib ia rb rm ra : ℕ) (lb la sb sm sa : Option (List ℕ)) (run_end : RunEnd) (reported : Result (Unit {0}) RunEnd) → RunBeforeStatus s (port_outcome spent fb fa ib ia rb rm) lb la sb sm (Some run_end) → (run_end ≢ WriteFault → rm ≡ rb) → StatusWritten run_end reported rm ra sm sa → Run s (port_outcome spent fb fa ib ia rb ra) lb la sb sa (result_err reported)
run_halted s spent fb fa ib ia rb rm ra lb la sb sm sa run_end reported u sound (inl (is, same, said)) =
    subst (λ t. Run s (port_outcome spent fb fa ib ia rb ra) lb la sb sa (result_err t)) (sym is)
    (subst (λ n. Run s (port_outcome spent fb fa ib ia rb n) lb la sb sa (Some run_end)) (sym same)
    (record { taken = u.taken; ended = u.ended; took = u.took; at_end = u.at_end; cause = u.cause; wrote = wrote_said s (port_outcome spent fb fa ib ia rb rm) u.ended u.taken sb sm sa run_end u.wrote said }))
run_halted s spent fb fa ib ia rb rm ra lb la sb sm sa run_end reported u sound (inr (inl (is, rose, front))) =
    subst (λ t. Run s (port_outcome spent fb fa ib ia rb ra) lb la sb sa (result_err t)) (sym is)
    (record {
      taken = u.taken;
      ended = u.ended;
      took = u.took;
      at_end = u.at_end;
      cause = refused_now s spent fb fa ib ia rb rm ra u.ended u.taken run_end u.cause sound rose;
      wrote = refused_wrote s spent fb fa ib ia rb rm ra u.ended u.taken sb sm sa run_end u.cause u.wrote front;
    })
run_halted s spent fb fa ib ia rb rm ra lb la sb sm sa run_end reported u sound (inr (inr (is, other, same, unsent))) =
    subst (λ t. Run s (port_outcome spent fb fa ib ia rb ra) lb la sb sa (result_err t)) (sym is)
    (subst (λ known. Run s (port_outcome spent fb fa ib ia rb ra) lb la sb known (Some NoMemory)) (sym unsent)
    (record { taken = u.taken; ended = u.ended; took = u.took; at_end = u.at_end; cause = tt; wrote = unsaid_front s run_end u.ended u.taken sb sm u.wrote }))

-- a run, after its status is written
pub run_reported : (s : CommandSpec) (spent : Type 0) (fb fa ib ia rb rm ra : ℕ) (lb la sb sm sa : Option (List ℕ)) (ended reported : Result (Unit {0}) RunEnd) → RunBeforeStatus s (port_outcome spent fb fa ib ia rb rm) lb la sb sm (result_err ended) → ((IsErrOf ended WriteFault → ⊥) → rm ≡ rb) → WritesStatus ended reported rm ra sm sa → Run s (port_outcome spent fb fa ib ia rb ra) lb la sb sa (result_err reported)
run_reported s spent fb fa ib ia rb rm ra lb la sb sm sa (Ok x) reported u sound (is, same, unsent) =
    subst (λ t. Run s (port_outcome spent fb fa ib ia rb ra) lb la sb sa (result_err t)) (sym is)
    (subst (λ known. Run s (port_outcome spent fb fa ib ia rb ra) lb la sb known None) (sym unsent)
    (record { taken = u.taken; ended = u.ended; took = u.took; at_end = u.at_end; cause = u.cause; wrote = u.wrote }))
run_reported s spent fb fa ib ia rb rm ra lb la sb sm sa (Err run_end) reported u sound writes =
    run_halted s spent fb fa ib ia rb rm ra lb la sb sm sa run_end reported u (λ other. sound (λ e. other (cc e))) writes

-- the output refused nothing if the run doesn't end so
sound_halted : (rb rm ra : ℕ) (sm sa : Option (List ℕ)) (run_end : RunEnd) (reported : Result (Unit {0}) RunEnd) → (run_end ≢ WriteFault → rm ≡ rb) → StatusWritten run_end reported rm ra sm sa → (reported ≢ Err WriteFault) → ra ≡ rb
sound_halted rb rm ra sm sa run_end reported sound (inl (is, same, said)) other = same ∙ sound (λ e. other (is ∙ ap Err e))
sound_halted rb rm ra sm sa run_end reported sound (inr (inl (is, rose, front))) other = absurd (other is)
sound_halted rb rm ra sm sa run_end reported sound (inr (inr (is, differs, same, unsent))) other = same ∙ sound differs

pub sound_reported : (rb rm ra : ℕ) (sm sa : Option (List ℕ)) (ended reported : Result (Unit {0}) RunEnd) → ((IsErrOf ended WriteFault → ⊥) → rm ≡ rb) → WritesStatus ended reported rm ra sm sa → (IsErrOf reported WriteFault → ⊥) → ra ≡ rb
sound_reported rb rm ra sm sa (Ok x) reported sound (is, same, unsent) other = same ∙ sound (λ e. cc e)
sound_reported rb rm ra sm sa (Err run_end) reported sound writes other = sound_halted rb rm ra sm sa run_end reported (λ differs. sound (λ e. differs (cc e))) writes other

-- the bytes taken so far, and those of one more read
pub took_more : (taken bytes : List ℕ) (lb lm la : Option (List ℕ)) → lb ≡ prepend_known taken lm → lm ≡ prepend_known bytes la → lb ≡ prepend_known (taken ++ bytes) la
took_more taken bytes lb lm la first second = first ∙ ap (prepend_known taken) second ∙ prepend_known_twice la taken bytes

pub took_none : (taken : List ℕ) (lb lm la : Option (List ℕ)) → lb ≡ prepend_known taken lm → lm ≡ prepend_known [] la → lb ≡ prepend_known taken la
took_none taken lb lm la first second = first ∙ ap (prepend_known taken) (second ∙ prepend_known_nil la)
