use Rattle.std.proofs.Common.{◌≡◌, ◌≤◌, false, length}
use Rattle.relay_core.specs.Strangers.{JudgesOn}
use Rattle.relay_core.proofs.strangers.judge_all.Given as goal

abbrev pub invariant-loop : goal.invariant-loop
invariant-loop g l =
    JudgesOn l.fn.rules l.fn.port l.fn.links l.links l.fn.scanner l.scanner g.W.Watcher.told l.fn.watcher l.watcher
    × (l.links.links ≡ l.fn.links.links)
    × (l.scanner.ended ≡ false)
    × (length l.scanner.bytes ≤ length l.fn.scanner.bytes)

abbrev pub decreases-loop : goal.decreases-loop
decreases-loop g l = length l.scanner.bytes
