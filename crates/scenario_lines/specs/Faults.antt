-- What a refusal says.
use Rattle.scenario_lines.specs.declared.faults.Reason.{Reason}
use Rattle.scenario_lines.specs.declared.faults.LineFault.{LineFault}
use Rattle.scenario_lines.specs.declared.faults.LineFault.TheVariants.{Bad, NoMemory}

-- a fact of the reason, if a line is bad
abbrev pub IfBad : LineFault → (Reason → Type 0) → Type 0
IfBad (Bad reason) P = P reason
IfBad NoMemory P = Unit {0}
