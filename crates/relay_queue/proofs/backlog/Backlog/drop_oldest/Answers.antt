use Rattle.std.proofs.Common.{◌∙◌, ◌-◌, List, ℕ, length, nat_lt, arith, ap, sym}
use Rattle.std.proofs.lemmas.List.{length-drop}
use Rattle.relay_queue.specs.Queues.{QueueState, newest, queue_of, size_of}
use Rattle.relay_queue.proofs.Frames.{all_fit, drop_one}
use Rattle.relay_queue.proofs.backlog.Backlog.drop_oldest.Goals as goal

pub loop-self-preserved : goal.loop-self-preserved
loop-self-preserved c =
    let first = c.args.self.now in
    let queue = c.loop-self.self in
    let room = 1048576 - length first.begun in
    let inv = c.loop-self.invariant in
    let e = c.drop_first.ensures in
    let less = length-drop 1 queue.waiting in
    let count = ap (λ (s : QueueState). length s.waiting) e in (
      ap (λ (s : QueueState). s.begun) e ∙ inv.0,
      ap (λ (s : QueueState). newest room s.waiting) e ∙ (drop_one queue.waiting room (ap (λ (b : List ℕ). nat_lt (1048576 - length b) (size_of queue.waiting)) (sym inv.0) ∙ sym c.loop-self-test.ensures.over) ∙ inv.1),
      omega (arith, less, count, inv.2),
    )

pub returns-clause-queue : goal.returns-clause-queue
returns-clause-queue c =
    let first = c.args.self.now in
    let queue = c.loop-self.self in
    let room = 1048576 - length first.begun in
    let inv = c.loop-self.invariant in
    let fits = all_fit queue.waiting room (ap (λ (b : List ℕ). nat_lt (1048576 - length b) (size_of queue.waiting)) (sym inv.0) ∙ sym c.loop-self-test.ensures.over) in
    (λ i. queue_of (inv.0 i) ((sym fits ∙ inv.1) i))
