use Rattle.std.proofs.Common.{◌≡◌, [], length}
use Rattle.relay_queue.specs.Queues.{written}
use Rattle.relay_queue.proofs.backlog.Backlog.take_frames.Given as goal

abbrev pub invariant-loop-left : goal.invariant-loop-left
invariant-loop-left l =
    (l.self.begun ≡ [])
    × (written l.left l.self.waiting ≡ written l.fn.count l.fn.self.waiting)

abbrev pub decreases-loop-left : goal.decreases-loop-left
decreases-loop-left l = length l.self.waiting
