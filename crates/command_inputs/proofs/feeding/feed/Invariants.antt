use Rattle.std.proofs.Common.{take}
use Rattle.command_inputs.specs.ByteByByte.{Fed}
use Rattle.command_inputs.proofs.feeding.feed.Given as goal

abbrev pub invariant-loop-byte : goal.invariant-loop-byte
invariant-loop-byte g l = Fed g.T.LineTaker.says (take l.byte-index l.piece) l.initial.taker l.initial.held l.taker l.held
