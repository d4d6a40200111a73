use Rattle.std.proofs.Common.{ℕ, ◌<◌, ◌∙◌, sym, ap, subst, refl, arith}
use Rattle.plan_items.specs.Words.{small_word_of}
use Rattle.plan_items.proofs.SmallWords.{shifted, shifted-small_word_of}
use Rattle.plan_items.proofs.words.small_word.Goals as goal

pub returns-then-k-eq0 : goal.returns-then-k-eq0
unfolding small_word_of
returns-then-k-eq0 c = rw c.if-k-eq0.true refl

pub overflow_add-result-2 : goal.overflow_add-result-2
overflow_add-result-2 c =
    let e : ℕ = c.ilog2-exponent.result in
    let word = shifted-small_word_of c.args.k e (omega arith) c.requires c.ilog2-exponent.ensures.bound c.ilog2-exponent.ensures.power_le c.ilog2-exponent.ensures.next_power_gt in
    let fits : shifted c.from.result e < 4294967296 = subst (λ (k : ℕ). shifted k e < 4294967296) (sym c.from.ensures) word.1 in
    omega (arith, fits)

pub returns : goal.returns
returns c =
    let e : ℕ = c.ilog2-exponent.result in
    let word = shifted-small_word_of c.args.k e (omega arith) c.requires c.ilog2-exponent.ensures.bound c.ilog2-exponent.ensures.power_le c.ilog2-exponent.ensures.next_power_gt in
    ap (λ k. shifted k e) c.from.ensures ∙ word.0
