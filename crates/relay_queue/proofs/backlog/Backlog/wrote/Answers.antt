use Rattle.std.proofs.Common.{◌∙◌, List, ℕ, arith, ap, sym, drop, length}
use Rattle.std.proofs.lemmas.List.{length-drop, drop-drop}
use Rattle.relay_queue.specs.Queues.{QueueState, frames_in, queue_of}
use Rattle.relay_queue.proofs.Frames.{next_begun, taken_begun, taken_waiting}
use Rattle.relay_queue.proofs.backlog.Backlog.wrote.Goals as goal

pub overflow_add-self : goal.overflow_add-self
overflow_add-self c =
    let q = c.self.inside in
    let begun = ap length (ap (λ (s : QueueState). s.begun) c.self.view_is ∙ next_begun c.args.self.now (sym c.has_begun.ensures ∙ c.if-has_begun.true)) in
    let rest = length-drop q.from q.part.items in
    let e = q.part.ok in
    let inv = c.self.invariant in
    omega (arith, begun, rest, e, inv.0, inv.1, c.requires)

pub invariant_of-self : goal.invariant_of-self
invariant_of-self c =
    let q = c.self.inside in
    let begun = ap length (ap (λ (s : QueueState). s.begun) c.self.view_is ∙ next_begun c.args.self.now (sym c.has_begun.ensures ∙ c.if-has_begun.true)) in
    let rest = length-drop q.from q.part.items in
    let e = q.part.ok in
    let inv = c.self.invariant in
    (omega (arith, begun, rest, e, inv.0, c.requires), inv.1, inv.2, inv.3, inv.4, inv.5)

pub returns-then-has_begun : goal.returns-then-has_begun
returns-then-has_begun c =
    let q = c.self.inside in
    ap (λ (b : List ℕ). queue_of b (frames_in q.sizes.items (drop q.start q.bytes.items))) (sym (drop-drop c.args.count q.from q.part.items))
    ∙ (ap (λ (s : QueueState). queue_of (drop c.args.count s.begun) s.waiting) c.self.view_is ∙ taken_begun c.args.count c.args.self.now (sym c.has_begun.ensures ∙ c.if-has_begun.true))

pub take_frames-requires : goal.take_frames-requires
take_frames-requires c = sym c.has_begun.ensures ∙ c.if-has_begun.false

pub returns : goal.returns
returns c = c.take_frames.ensures ∙ taken_waiting c.args.count c.args.self.now (sym c.has_begun.ensures ∙ c.if-has_begun.false)
