use Rattle.std.proofs.Common.{◌≡◌, ◌∙◌, sym, ap}
use Rattle.plan_items.specs.Words.{small_word_of}
use Rattle.plan_items.proofs.SmallWords.{whole_part, whole_part-small_word_of, parts-small_word_of}
use Rattle.plan_items.proofs.words.whole_part.Goals as goal

pub returns-then-word-eq0 : goal.returns-then-word-eq0
returns-then-word-eq0 c = λ k small is.
    let zero_word : 0 ≡ small_word_of k = sym c.if-word-eq0.true ∙ is in
    ap whole_part zero_word ∙ whole_part-small_word_of k small

pub returns : goal.returns
returns c = λ k small is.
    parts-small_word_of _ k _ _ c.if-word-eq0.false small is c.saturating_sub-exponent.ensures c.saturating_sub.ensures
