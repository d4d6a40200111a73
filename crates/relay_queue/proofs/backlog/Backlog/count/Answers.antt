use Rattle.std.proofs.Common.{◌∙◌, ◌+◌, arith, ap, sym, true, false, ℕ}
use Rattle.relay_queue.proofs.Frames.{count_begun}
use Rattle.relay_queue.proofs.backlog.Backlog.count.Goals as goal

pub returns-then-has_begun : goal.returns-then-has_begun
returns-then-has_begun c = ap (λ (n : ℕ). n + 1) c.waiting.ensures.count ∙ count_begun c.args.self.now true (sym c.has_begun.ensures ∙ c.if-has_begun.true)

pub returns-else-has_begun : goal.returns-else-has_begun
returns-else-has_begun c =
    let none = count_begun c.args.self.now false (sym c.has_begun.ensures ∙ c.if-has_begun.false) in
    omega (arith, none, c.waiting-else-has_begun.ensures.count)
