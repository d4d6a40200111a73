use Rattle.std.proofs.Common.{◌≡◌, ◌∙◌, ap, subst, nat_lt}
use Rattle.relay_queue.specs.Queues.{QueueState, has_begun}
use Rattle.relay_queue.proofs.Frames.{begun_is_some}
use Rattle.relay_queue.proofs.backlog.Backlog.has_begun.Goals as goal

pub returns : goal.returns
returns c =
    let q = c.self.inside in
    subst (λ (s : QueueState). nat_lt q.from c.len.result ≡ has_begun s) c.self.view_is
    (ap (nat_lt q.from) (c.len.ensures ∙ q.part.ok.0) ∙ begun_is_some q.from q.part.items)
