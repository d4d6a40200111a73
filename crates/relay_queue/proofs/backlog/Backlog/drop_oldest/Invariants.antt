use Rattle.std.proofs.Common.{◌≡◌, ◌≤◌, ◌-◌, length}
use Rattle.relay_queue.specs.Queues.{newest}
use Rattle.relay_queue.proofs.backlog.Backlog.drop_oldest.Given as goal

abbrev pub invariant-loop-self : goal.invariant-loop-self
invariant-loop-self l =
    (l.self.begun ≡ l.fn.self.begun)
    × (newest (1048576 - length l.fn.self.begun) l.self.waiting ≡ newest (1048576 - length l.fn.self.begun) l.fn.self.waiting)
    × (length l.self.waiting ≤ length l.fn.self.waiting)

abbrev pub decreases-loop-self : goal.decreases-loop-self
decreases-loop-self l = length l.self.waiting
