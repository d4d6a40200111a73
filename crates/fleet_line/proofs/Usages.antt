-- How a run over words of no command is reported.
use Rattle.std.proofs.Common.{◌≡◌, ◌≢◌, ◌∙◌, ◌⊎◌, inl, inr, ℕ, List, [], ◌∷◌, ◌++◌, refl, sym, subst, ap, arith, Option, Some, Result, Ok, Err, IsErr, IsErrOf, codes}
use Rattle.std.specs.Result.{result_err}
use Rattle.std.specs.Io.KnownBytes.{append_known}
use Rattle.mav_ports.specs.Puts.{SentPrefix}
use Rattle.mav_ports.proofs.Known.{append_known_nil}
use Rattle.run_status.specs.declared.input_errors.InputError.TheVariants.{Bad, AtLimit, StampsSpent}
use Rattle.run_status.specs.declared.live_ends.LiveEnd.TheVariants.{RefusedWith, NoAnswer, StoreFault, PortTurns, PortFault}
use Rattle.run_status.specs.declared.run_ends.RunEnd.{RunEnd}
use Rattle.run_status.specs.declared.run_ends.RunEnd.TheVariants.{Usage, Stopped, ReadFault, WriteFault, NoMemory, TurnsSpent, Live}
use Rattle.run_status.specs.Endings.{code_of}
use Rattle.run_status.specs.StatusText.{StatusWritten, WritesStatus}
use Rattle.fleet_line.specs.Usage.{UsageReported}

-- status 2 is that of words alone
usage_code : (run_end : RunEnd) → code_of (Some run_end) ≡ 2 → run_end ≡ Usage
usage_code Usage e = refl
usage_code (Stopped (Bad place reason)) e = absurd (omega arith)
usage_code (Stopped (AtLimit limit)) e = absurd (omega arith)
usage_code (Stopped StampsSpent) e = absurd (omega arith)
usage_code ReadFault e = absurd (omega arith)
usage_code WriteFault e = absurd (omega arith)
usage_code NoMemory e = absurd (omega arith)
usage_code TurnsSpent e = absurd (omega arith)
usage_code (Live (RefusedWith code)) e = absurd (omega arith)
usage_code (Live (NoAnswer ticks)) e = absurd (omega arith)
usage_code (Live StoreFault) e = absurd (omega arith)
usage_code (Live (PortTurns turns)) e = absurd (omega arith)
usage_code (Live PortFault) e = absurd (omega arith)

usage_halted : (rm ra : ℕ) (sm sa : Option (List ℕ)) (run_end : RunEnd) (reported : Result (Unit {0}) RunEnd) → StatusWritten run_end reported rm ra sm sa → code_of (result_err reported) ≡ 2 → run_end ≡ Usage
usage_halted rm ra sm sa run_end reported (inl (is, same, said)) two = usage_code run_end (ap (λ t. code_of (result_err t)) (sym is) ∙ two)
usage_halted rm ra sm sa run_end reported (inr (inl (is, rose, front))) two = absurd (let five : code_of (Some WriteFault) ≡ 2 = ap (λ t. code_of (result_err t)) (sym is) ∙ two in omega (arith, five))
usage_halted rm ra sm sa run_end reported (inr (inr (is, other, same, unsent))) two = absurd (let seven : code_of (Some NoMemory) ≡ 2 = ap (λ t. code_of (result_err t)) (sym is) ∙ two in omega (arith, seven))

pub usage_ended : (rm ra : ℕ) (sm sa : Option (List ℕ)) (ended reported : Result (Unit {0}) RunEnd) → WritesStatus ended reported rm ra sm sa → code_of (result_err reported) ≡ 2 → IsErrOf ended Usage
usage_ended rm ra sm sa (Ok x) reported (is, same, unsent) two = absurd (let done : Result (Unit {0}) RunEnd = Ok x in let none : code_of (result_err done) ≡ 2 = ap (λ t. code_of (result_err t)) (sym is) ∙ two in omega (arith, none))
usage_ended rm ra sm sa (Err run_end) reported writes two = ap Err (usage_halted rm ra sm sa run_end reported writes two)

-- the output refused a write only if the run ends so
pub five_only : (reported : Result (Unit {0}) RunEnd) → code_of (result_err reported) ≢ 5 → (IsErrOf reported WriteFault → ⊥)
five_only reported other is = other (ap (λ t. code_of (result_err t)) is)

front_of_nothing : (before after : Option (List ℕ)) (part rest text : List ℕ) → part ++ rest ≡ [] → after ≡ append_known before part → SentPrefix before after text
front_of_nothing before after [] rest text e sent = (text, record { part = []; whole = refl; appended = sent })
front_of_nothing before after (b ∷ part) rest text never sent = absurd (cc never)

-- the status and the output
usage_reported : (rm ra : ℕ) (sm sa : Option (List ℕ)) (reported : Result (Unit {0}) RunEnd) → StatusWritten Usage reported rm ra sm sa → UsageReported (code_of (result_err reported)) rm ra sm sa
usage_reported rm ra sm sa reported (inl (is, same, said)) = inl (ap (λ t. code_of (result_err t)) is, said)
usage_reported rm ra sm sa reported (inr (inl (is, rose, front))) = inr (inl (ap (λ t. code_of (result_err t)) is, rose, front))
usage_reported rm ra sm sa reported (inr (inr (is, other, same, unsent))) = inr (inr (ap (λ t. code_of (result_err t)) is, unsent))

memory_reported : (rm ra : ℕ) (sm sa : Option (List ℕ)) (reported : Result (Unit {0}) RunEnd) → StatusWritten NoMemory reported rm ra sm sa → UsageReported (code_of (result_err reported)) rm ra sm sa
memory_reported rm ra sm sa reported (inl (is, same, said)) = inr (inr (ap (λ t. code_of (result_err t)) is, said ∙ sym (append_known_nil sm)))
memory_reported rm ra sm sa reported (inr (inl (is, rose, (rest, s)))) = inr (inl (ap (λ t. code_of (result_err t)) is, rose, front_of_nothing sm sa s.part rest (codes "usage\n") s.whole s.appended))
memory_reported rm ra sm sa reported (inr (inr (is, other, same, unsent))) = inr (inr (ap (λ t. code_of (result_err t)) is, unsent))

pub words_reported : (rb rm ra : ℕ) (sb sm sa : Option (List ℕ)) (ended reported : Result (Unit {0}) RunEnd) → IsErrOf ended Usage ⊎ IsErrOf ended NoMemory → ((IsErrOf ended WriteFault → ⊥) → rm ≡ rb) → sm ≡ sb → WritesStatus ended reported rm ra sm sa → UsageReported (code_of (result_err reported)) rb ra sb sa
words_reported rb rm ra sb sm sa ended reported (inl is) sound unsent writes =
    let same : rm ≡ rb = sound (λ e. cc (is, e)) in
    subst (λ n. UsageReported (code_of (result_err reported)) n ra sb sa) same (subst (λ s. UsageReported (code_of (result_err reported)) rm ra s sa) unsent
    (usage_reported rm ra sm sa reported (subst (λ e. WritesStatus e reported rm ra sm sa) is writes)))
words_reported rb rm ra sb sm sa ended reported (inr is) sound unsent writes =
    let same : rm ≡ rb = sound (λ e. cc (is, e)) in
    subst (λ n. UsageReported (code_of (result_err reported)) n ra sb sa) same (subst (λ s. UsageReported (code_of (result_err reported)) rm ra s sa) unsent
    (memory_reported rm ra sm sa reported (subst (λ e. WritesStatus e reported rm ra sm sa) is writes)))

-- a run that halted isn't done
code_some : (run_end : RunEnd) → code_of (Some run_end) ≢ 0
code_some Usage e = omega (arith, e)
code_some (Stopped (Bad place reason)) e = omega (arith, e)
code_some (Stopped (AtLimit limit)) e = omega (arith, e)
code_some (Stopped StampsSpent) e = omega (arith, e)
code_some ReadFault e = omega (arith, e)
code_some WriteFault e = omega (arith, e)
code_some NoMemory e = omega (arith, e)
code_some TurnsSpent e = omega (arith, e)
code_some (Live (RefusedWith code)) e = omega (arith, e)
code_some (Live (NoAnswer ticks)) e = omega (arith, e)
code_some (Live StoreFault) e = omega (arith, e)
code_some (Live (PortTurns turns)) e = omega (arith, e)
code_some (Live PortFault) e = omega (arith, e)

halted_reported : (rm ra : ℕ) (sm sa : Option (List ℕ)) (run_end : RunEnd) (reported : Result (Unit {0}) RunEnd) → StatusWritten run_end reported rm ra sm sa → code_of (result_err reported) ≢ 0
halted_reported rm ra sm sa run_end reported (inl (is, same, said)) e = code_some run_end (ap (λ t. code_of (result_err t)) (sym is) ∙ e)
halted_reported rm ra sm sa run_end reported (inr (inl (is, rose, front))) e = code_some WriteFault (ap (λ t. code_of (result_err t)) (sym is) ∙ e)
halted_reported rm ra sm sa run_end reported (inr (inr (is, other, same, unsent))) e = code_some NoMemory (ap (λ t. code_of (result_err t)) (sym is) ∙ e)

pub halted_code : (rm ra : ℕ) (sm sa : Option (List ℕ)) (ended reported : Result (Unit {0}) RunEnd) → IsErr ended → WritesStatus ended reported rm ra sm sa → code_of (result_err reported) ≢ 0
halted_code rm ra sm sa (Ok x) reported never writes e = cc never
halted_code rm ra sm sa (Err run_end) reported err writes e = halted_reported rm ra sm sa run_end reported writes e
