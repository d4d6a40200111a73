-- What a reading of a line's words returns, beside what they say.
use Rattle.std.specs.Prelude.{◌≡◌, Ok, Err}
use Rattle.std.specs.declared.result.Result.{Result}
use Rattle.scenario_lines.specs.declared.faults.Reason.{Reason}
use Rattle.scenario_lines.specs.declared.faults.LineFault.{LineFault}
use Rattle.scenario_lines.specs.declared.faults.LineFault.TheVariants.{Bad, NoMemory}
use Rattle.fence_command.specs.FenceFile.{FileState, file_reason}

-- a reading did what the line says, or gave the reason against it
abbrev pub Says : Result (Unit {0}) Reason → Result FileState Reason → FileState → Type 0
Says (Ok done) says file = says ≡ Ok file
Says (Err reason) says file = says ≡ Err reason

-- a fault of an item line, with the file's reason
abbrev pub file_fault : LineFault → LineFault
file_fault (Bad reason) = Bad (file_reason reason)
file_fault NoMemory = NoMemory

abbrev pub renamed : Result (Unit {0}) LineFault → Result (Unit {0}) LineFault
renamed (Ok done) = Ok done
renamed (Err fault) = Err (file_fault fault)
