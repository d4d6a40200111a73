use Rattle.std.proofs.Common.{ℕ, ◌+◌, ◌*◌, ◌<◌, ◌≤◌, Fits, arith}
use mir.Syntax.{w16}
use Rattle.dialect.proofs.types.number_of.Goals as goal

within : (k n len : ℕ) → k < n → n ≤ len → k < len
within k n len inside least = omega arith

tens : (a : ℕ) → a ≤ 207 → Fits w16 (a * 10)
tens a most = omega arith

two : (a b : ℕ) → a ≤ 207 → b ≤ 207 → Fits w16 (a * 10 + b)
two a b more most = omega arith

hundreds : (a b : ℕ) → a ≤ 207 → b ≤ 207 → Fits w16 ((a * 10 + b) * 10)
hundreds a b more most = omega arith

three : (a b c : ℕ) → a ≤ 207 → b ≤ 207 → c ≤ 207 → Fits w16 ((a * 10 + b) * 10 + c)
three a b c more much most = omega arith

is_0_1 : 0 < 1
is_0_1 = omega arith

is_0_2 : 0 < 2
is_0_2 = omega arith

is_1_2 : 1 < 2
is_1_2 = omega arith

is_0_3 : 0 < 3
is_0_3 = omega arith

is_1_3 : 1 < 3
is_1_3 = omega arith

is_2_3 : 2 < 3
is_2_3 = omega arith

pub bounds-digits-0 : goal.bounds-digits-0
bounds-digits-0 c = within 0 1 _ is_0_1 c.in-len1.len_at_least

pub bounds-digits-0-then-digits-lt3 : goal.bounds-digits-0-then-digits-lt3
bounds-digits-0-then-digits-lt3 c = within 0 2 _ is_0_2 c.in-len2.len_at_least

pub bounds-digits-1 : goal.bounds-digits-1
bounds-digits-1 c = within 1 2 _ is_1_2 c.in-len2.len_at_least

pub bounds-digits-0-then-digits-lt4 : goal.bounds-digits-0-then-digits-lt4
bounds-digits-0-then-digits-lt4 c = within 0 3 _ is_0_3 c.in-len3.len_at_least

pub bounds-digits-1-then-digits-lt4 : goal.bounds-digits-1-then-digits-lt4
bounds-digits-1-then-digits-lt4 c = within 1 3 _ is_1_3 c.in-len3.len_at_least

pub bounds-digits-2 : goal.bounds-digits-2
bounds-digits-2 c = within 2 3 _ is_2_3 c.in-len3.len_at_least

pub overflow_mul-result : goal.overflow_mul-result
overflow_mul-result c = tens _ c.digit-in-len2.ensures.bound

pub overflow_add-result : goal.overflow_add-result
overflow_add-result c = two _ _ c.digit-in-len2.ensures.bound c.digit-in-len2-2.ensures.bound

pub overflow_mul-result-in-len3 : goal.overflow_mul-result-in-len3
overflow_mul-result-in-len3 c = tens _ c.digit-in-len3.ensures.bound

pub overflow_add-result-in-len3 : goal.overflow_add-result-in-len3
overflow_add-result-in-len3 c = two _ _ c.digit-in-len3.ensures.bound c.digit-in-len3-2.ensures.bound

pub overflow_mul-result-in-len3-2 : goal.overflow_mul-result-in-len3-2
overflow_mul-result-in-len3-2 c = hundreds _ _ c.digit-in-len3.ensures.bound c.digit-in-len3-2.ensures.bound

pub overflow_add-result-in-len3-2 : goal.overflow_add-result-in-len3-2
overflow_add-result-in-len3-2 c = three _ _ _ c.digit-in-len3.ensures.bound c.digit-in-len3-2.ensures.bound c.digit-in-len3-3.ensures.bound
