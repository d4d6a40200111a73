use Rattle.std.proofs.Common.{◌≡◌, ℕ, suc, ◌+◌, ◌*◌, ◌<◌, ◌≤◌, Fits, w64, zero-add, sym, ap, ◌∙◌, arith}
use Rattle.std.proofs.Math.Nat.{mul-le-mul_left, mul-suc}
use Rattle.std.proofs.lemmas.List.FromFn.{map-range_with_len_more}
use Rattle.std.proofs.lemmas.Result.{err_from_is_err_and}
use Rattle.field_layout.specs.Reading.{word_from, words_from}
use Rattle.field_layout.proofs.unpacking.read_words.Goals as goal

-- a word among `count` of them
word_within : (at size count k : ℕ) → k < count → at + size * count ≤ 255 → at + size * k + size ≤ 255
word_within at size count k one fits =
    let next : suc k ≤ count = omega arith in
    omega (arith, mul-le-mul_left {m = suc k} {n = count} size next, mul-suc size k)

product_fits : (at size k : ℕ) → at + size * k + size ≤ 255 → Fits w64 (size * k)
product_fits at size k within = omega arith

sum_fits : (at size k : ℕ) → at + size * k + size ≤ 255 → Fits w64 (at + size * k)
sum_fits at size k within = omega arith

at_end : (k count : ℕ) → k ≤ count → count ≤ k → k ≡ count
at_end k count most least = omega arith

pub loop-element-init : goal.loop-element-init
loop-element-init c = c.new-words.ensures.items

pub overflow_mul-size : goal.overflow_mul-size
overflow_mul-size c = product_fits c.args.at c.args.size c.loop-element.element (word_within c.args.at c.args.size c.args.count c.loop-element.element c.loop-element-test.true c.requires.within)

pub overflow_add-at : goal.overflow_add-at
overflow_add-at c = sum_fits c.args.at c.args.size c.loop-element.element (word_within c.args.at c.args.size c.args.count c.loop-element.element c.loop-element-test.true c.requires.within)

pub read_word-requires-clause-size : goal.read_word-requires-clause-size
read_word-requires-clause-size c = c.requires.size

pub read_word-requires-clause-within : goal.read_word-requires-clause-within
read_word-requires-clause-within c = word_within c.args.at c.args.size c.args.count c.loop-element.element c.loop-element-test.true c.requires.within

pub returns-in_err-push : goal.returns-in_err-push
returns-in_err-push c = rw (err_from_is_err_and c.from_residual.result c.from_residual.ensures.1).1 tt

pub loop-element-preserved : goal.loop-element-preserved
loop-element-preserved c =
    let word : ℕ → ℕ = λ k. word_from c.args.payload.now (c.args.at + c.args.size * k) c.args.size in
    let more = map-range_with_len_more word 0 c.loop-element.element c.loop-element.element (zero-add c.loop-element.element) in
    rw (c.in_ok-push.ensures.items, c.loop-element.invariant, c.read_word.ensures) (sym more)

pub returns : goal.returns
returns c =
    c.loop-element.invariant
    ∙ ap (words_from c.args.payload.now c.args.at c.args.size) (at_end c.loop-element.element c.args.count c.loop-element.auto.element-end c.loop-element-test.false)
