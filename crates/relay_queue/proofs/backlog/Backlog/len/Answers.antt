use Rattle.std.proofs.Common.{◌≡◌, ◌+◌, ◌-◌, ◌≤◌, arith, length, drop, subst}
use Rattle.std.proofs.lemmas.List.{length-drop}
use Rattle.relay_queue.specs.Queues.{QueueState, size_of}
use Rattle.relay_queue.proofs.Frames.{size_frames}
use Rattle.relay_queue.proofs.backlog.Backlog.len.Goals as goal

pub returns-clause-size : goal.returns-clause-size
returns-clause-size c =
    let q = c.self.inside in
    let sizes = c.self.invariant.3 in
    let rest = length-drop q.start q.bytes.items in
    let part = length-drop q.from q.part.items in
    let size = size_frames q.sizes.items (drop q.start q.bytes.items) (omega (arith, sizes, rest)) in
    let a = c.len.ensures in
    let b = c.len-2.ensures in
    let e = q.part.ok in
    let f = q.bytes.ok in
    subst (λ (s : QueueState). c.len.result - q.from + (c.len-2.result - q.start) ≡ length s.begun + size_of s.waiting) c.self.view_is
    (omega (arith, sizes, rest, part, size, a, b, e, f))

pub returns-clause-part : goal.returns-clause-part
returns-clause-part c =
    let q = c.self.inside in
    let part = length-drop q.from q.part.items in
    let e = q.part.ok in
    let most = c.self.invariant.1 in
    subst (λ (s : QueueState). length s.begun ≤ 280) c.self.view_is (omega (arith, part, e, most))
