use Rattle.std.proofs.Common.{◌≡◌, length}
use Rattle.relay_core.specs.Moves.{Moves, OthersKept, held_at}
use Rattle.relay_core.proofs.streams.hear_all.Given as goal

abbrev pub invariant-loop : goal.invariant-loop
invariant-loop g l =
    Moves l.fn.rules
    (record { links = l.fn.links; scanners = l.fn.scanners; queues = l.fn.queues })
    (record { links = l.links; scanners = l.scanners; queues = l.queues })
    g.W.Watcher.told l.fn.watcher l.watcher
    × (l.links.links ≡ l.fn.links.links)
    × (l.links.given ≡ l.fn.links.given)
    × OthersKept l.fn.index l.fn.scanners l.scanners
    × (length l.queues ≡ length l.fn.queues)

abbrev pub decreases-loop : goal.decreases-loop
decreases-loop g l = length (held_at l.scanners l.fn.index).bytes
