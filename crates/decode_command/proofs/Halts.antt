-- How a run that writes lines halts, by what its last call returned.
use Rattle.std.proofs.Common.{ℕ, ◌≡◌, inl, inr, refl, ap, subst, Result, Ok, Err, OnOk, IfErr, IsErrOf}
use Rattle.mav_ports.specs.Counts.{Rose}
use Rattle.run_status.specs.declared.run_ends.RunEnd.{RunEnd}
use Rattle.run_status.specs.declared.run_ends.RunEnd.TheVariants.{WriteFault, NoMemory}
use Rattle.decode_command.specs.Halts.{CountsHalt}

ok_is_no_error : {A : Type 0} (done : A) (halt : RunEnd) → IsErrOf (Ok done) halt → ⊥
ok_is_no_error done halt e = cc e

no_memory_is_no_fault : {A : Type 0} → IsErrOf {T = A} (Err NoMemory) WriteFault → ⊥
no_memory_is_no_fault e = cc e

one_error : {A : Type 0} (a b : RunEnd) → IsErrOf {T = A} (Err a) b → a ≡ b
one_error a b e = cc e

pub halts_never : {A : Type 0} (done : A) (before now : ℕ) → now ≡ before → CountsHalt (Ok done) before now
halts_never done before now same = record { error = tt; rose = λ is. absurd (ok_is_no_error done WriteFault is); sound = λ other. same }

pub halts_unfed : {A : Type 0} (before now : ℕ) → now ≡ before → CountsHalt {A = A} (Err NoMemory) before now
halts_unfed before now same = record { error = inr refl; rose = λ is. absurd (no_memory_is_no_fault is); sound = λ other. same }

pub halts_refused : {A : Type 0} (halt : RunEnd) (before now : ℕ) → halt ≡ WriteFault → Rose before now → CountsHalt {A = A} (Err halt) before now
halts_refused halt before now is rose = record { error = inl is; rose = λ at. rose; sound = λ other. absurd (other (ap Err is)) }

-- a call of another type halted, before which the count was as at the start
pub halts_there : {A : Type 0} {B : Type 0} (halt : RunEnd) (start before now : ℕ) → before ≡ start → CountsHalt {A = A} (Err halt) before now → CountsHalt {A = B} (Err halt) start now
halts_there halt start before now same h = record {
  error = h.error;
  rose = λ is. subst (λ (n : ℕ). Rose n now) same (h.rose (ap Err (one_error halt WriteFault is)));
  sound = λ other. subst (λ (n : ℕ). now ≡ n) same (h.sound (λ is. other (ap Err (one_error halt WriteFault is))));
}

-- the last call was the write of what is held
pub halts_written : {A : Type 0} (r : Result A RunEnd) (start before now : ℕ) → before ≡ start → IfErr r (λ halt. halt ≡ WriteFault) → (IsErrOf r WriteFault → Rose before now) → OnOk r (now ≡ before) → CountsHalt r start now
halts_written (Ok done) start before now same error rose sound = halts_never done start now (subst (λ (n : ℕ). now ≡ n) same sound)
halts_written (Err halt) start before now same error rose sound = halts_refused halt start now error (subst (λ (n : ℕ). Rose n now) same (rose (ap Err error)))
