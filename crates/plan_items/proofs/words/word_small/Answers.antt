use Rattle.std.proofs.Common.{◌≡◌, ◌≤◌, ◌∙◌, sym, ap, arith}
use Rattle.plan_items.specs.Words.{small_word_of, word_number}
use Rattle.plan_items.proofs.SmallWords.{word_number-none, word_number-small_word_of}
use Rattle.plan_items.proofs.words.word_small.Goals as goal

pub returns-then-k-from : goal.returns-then-k-from
returns-then-k-from c = word_number-none _ (λ k small is.
    let whole : c.whole_part-k.result ≡ k = c.whole_part-k.ensures k small (sym is) in
    absurd (omega arith))

pub returns-then-small_word-word : goal.returns-then-small_word-word
returns-then-small_word-word c =
    let small : c.whole_part-k.result ≤ 70 = omega arith in
    sym (ap word_number (sym (sym c.small_word.ensures ∙ c.if-small_word-word.true)) ∙ word_number-small_word_of c.whole_part-k.result small)

pub returns-else-small_word-word : goal.returns-else-small_word-word
returns-else-small_word-word c = word_number-none _ (λ k small is.
    let whole : c.whole_part-k.result ≡ k = c.whole_part-k.ensures k small (sym is) in
    c.if-small_word-word.false (c.small_word.ensures ∙ (ap small_word_of whole ∙ is)))
