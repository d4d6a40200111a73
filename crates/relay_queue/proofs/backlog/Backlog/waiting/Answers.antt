use Rattle.std.proofs.Common.{◌≡◌, arith, length, drop, subst}
use Rattle.relay_queue.specs.Queues.{QueueState}
use Rattle.relay_queue.proofs.Frames.{count_frames}
use Rattle.relay_queue.proofs.backlog.Backlog.waiting.Goals as goal

pub returns-clause-count : goal.returns-clause-count
returns-clause-count c =
    let q = c.self.inside in
    let count = count_frames q.sizes.items (drop q.start q.bytes.items) in
    let e = q.sizes.ok in
    subst (λ (s : QueueState). c.len.result ≡ length s.waiting) c.self.view_is (omega (arith, count, e, c.len.ensures))

pub returns-clause-few : goal.returns-clause-few
returns-clause-few c = let few = c.self.inside.sizes.small in omega (arith, few, c.len.ensures)
