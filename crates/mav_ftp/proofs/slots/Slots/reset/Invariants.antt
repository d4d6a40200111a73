use Rattle.std.proofs.Common.{◌≡◌, ◌++◌, map, take, drop}
use Rattle.mav_ftp.specs.Sessions.{unless_of}
use Rattle.mav_ftp.proofs.slots.Slots.reset.Given as goal

abbrev pub invariant-loop-slot : goal.invariant-loop-slot
invariant-loop-slot l = l.slot-items ≡ map (unless_of l.fn.stream) (take l.slot-index l.fn.self) ++ drop l.slot-index l.fn.self
