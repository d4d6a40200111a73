-- Products of integers.
use Rattle.std.proofs.Common.{◌≡◌, ◌*◌, sym, ap, ◌∙◌, arith, ℤ}
use Rattle.std.specs.Prelude.{◌+ℤ◌, ◌-ℤ◌, ◌*ℤ◌, neg_ℤ}
use Rattle.std.proofs.lemmas.Int.{ints}
use borrow.Author.Differences.{up, down, sum_is_lem, product_is, neg_is}

pub mul_comm : (a b : ℤ) → a *ℤ b ≡ b *ℤ a
mul_comm a b = omega (arith, ints)

pub mul_assoc : (a b c : ℤ) → (a *ℤ b) *ℤ c ≡ a *ℤ (b *ℤ c)
mul_assoc a b c =
    let ab = product_is a b in
    let bc = product_is b c in
    omega (arith, ints, ap (λ n. n * up c) ab.0, ap (λ n. n * down c) ab.0, ap (λ n. n * up c) ab.1, ap (λ n. n * down c) ab.1, ap (λ n. up a * n) bc.0, ap (λ n. down a * n) bc.0, ap (λ n. up a * n) bc.1, ap (λ n. down a * n) bc.1)

pub mul_sum : (a b c : ℤ) → a *ℤ (b +ℤ c) ≡ (a *ℤ b) +ℤ (a *ℤ c)
mul_sum a b c = omega (arith, ints, ap (λ n. up a * n) (sum_is_lem b c), ap (λ n. down a * n) (sum_is_lem b c))

pub mul_difference : (a b c : ℤ) → a *ℤ (b -ℤ c) ≡ (a *ℤ b) -ℤ (a *ℤ c)
mul_difference a b c = omega (arith, ints, ap (λ n. up a * n) (sum_is_lem b (neg_ℤ c)), ap (λ n. down a * n) (sum_is_lem b (neg_ℤ c)), ap (λ n. up a * n) (neg_is c).0, ap (λ n. down a * n) (neg_is c).0, ap (λ n. up a * n) (neg_is c).1, ap (λ n. down a * n) (neg_is c).1)

-- ---- products of three, and differences in them
pub swapped : (r a b : ℤ) → r *ℤ (a *ℤ b) ≡ a *ℤ (r *ℤ b)
swapped r a b = sym (mul_assoc r a b) ∙ (ap (λ n. n *ℤ b) (mul_comm r a) ∙ mul_assoc a r b)

pub turned : (a b c : ℤ) → (a *ℤ b) *ℤ c ≡ (b *ℤ c) *ℤ a
turned a b c = mul_assoc a b c ∙ mul_comm a (b *ℤ c)

pub exchanged : (a b c : ℤ) → (a *ℤ b) *ℤ c ≡ (a *ℤ c) *ℤ b
exchanged a b c = mul_assoc a b c ∙ (ap (λ n. a *ℤ n) (mul_comm b c) ∙ sym (mul_assoc a c b))

pub difference_mul : (a b c : ℤ) → (a -ℤ b) *ℤ c ≡ (a *ℤ c) -ℤ (b *ℤ c)
difference_mul a b c = mul_comm (a -ℤ b) c ∙ (mul_difference c a b ∙ (ap (λ n. n -ℤ (c *ℤ b)) (mul_comm c a) ∙ ap (λ n. (a *ℤ c) -ℤ n) (mul_comm c b)))
