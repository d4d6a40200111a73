use Rattle.std.proofs.Common.{◌≡◌, take}
use Rattle.x25_check.specs.Check.{check_from}
use Rattle.x25_check.proofs.check.after_each.Given as goal

abbrev pub invariant-loop-byte : goal.invariant-loop-byte
invariant-loop-byte l = l.now ≡ check_from l.register (take l.byte-index l.bytes)
