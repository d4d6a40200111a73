use Rattle.std.proofs.Common.{◌∙◌, arith, ap, sym, drop}
use Rattle.std.specs.List.{concat}
use Rattle.std.proofs.lemmas.List.{length-drop}
use Rattle.relay_queue.specs.Queues.{QueueState}
use Rattle.relay_queue.proofs.Frames.{all_frames, next_begun, next_waiting, rest_of}
use Rattle.relay_queue.proofs.backlog.Backlog.next_bytes.Goals as goal

pub returns-then-has_begun : goal.returns-then-has_begun
returns-then-has_begun c =
    let q = c.self.inside in
    rest_of q.from q.part.items c.deref.result.now c.deref.ensures.value
    ∙ (ap (λ (s : QueueState). s.begun) c.self.view_is ∙ next_begun c.args.self.now (sym c.has_begun.ensures ∙ c.if-has_begun.true))

pub returns-else-has_begun : goal.returns-else-has_begun
returns-else-has_begun c =
    let q = c.self.inside in
    let rest = length-drop q.start q.bytes.items in
    rest_of q.start q.bytes.items c.deref-else-has_begun.result.now c.deref-else-has_begun.ensures.value
    ∙ (sym (all_frames q.sizes.items (drop q.start q.bytes.items) (omega (arith, c.self.invariant.3, rest)))
    ∙ (ap (λ (s : QueueState). concat s.waiting) c.self.view_is ∙ next_waiting c.args.self.now (sym c.has_begun.ensures ∙ c.if-has_begun.false)))
