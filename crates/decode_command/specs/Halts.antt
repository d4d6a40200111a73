-- How a run that writes lines halts.
use Rattle.std.specs.Prelude.{ℕ, ◌≡◌, ◌⊎◌, Result, IfErr, IsErrOf}
use Rattle.mav_ports.specs.Counts.{Rose}
use Rattle.run_status.specs.declared.run_ends.RunEnd.{RunEnd}
use Rattle.run_status.specs.declared.run_ends.RunEnd.TheVariants.{WriteFault, NoMemory}

-- a write was refused, or there was no memory; the sink's count of refused writes rose at the first alone
pub record CountsHalt {A : Type 0} (result : Result A RunEnd) (before now : ℕ) : Type 0 where
  pub error : IfErr result (λ halt. (halt ≡ WriteFault) ⊎ (halt ≡ NoMemory))
  pub rose : IsErrOf result WriteFault → Rose before now
  pub sound : (IsErrOf result WriteFault → ⊥) → now ≡ before
