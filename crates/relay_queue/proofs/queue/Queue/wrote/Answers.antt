use Rattle.std.proofs.Common.{◌+◌, ◌≤◌, length, arith, subst, sym}
use Rattle.relay_queue.specs.Queues.{QueueState, size_of}
use Rattle.relay_queue.proofs.Limits.{taken_fewer}
use Rattle.relay_queue.proofs.queue.Queue.wrote.Goals as goal

pub invariant_of-self : goal.invariant_of-self
invariant_of-self c =
    let fewer = taken_fewer c.args.count c.self.inside.frames in
    let few = c.self.invariant in
    subst (λ (s : QueueState). length s.begun + size_of s.waiting ≤ 1048576) (sym c.wrote.ensures) (omega (arith, fewer, few))
