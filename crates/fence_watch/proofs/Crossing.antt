-- Segments on two lines that aren't parallel, and pass the test by signs, have a point in common (Cramer's rule).
use Rattle.std.proofs.Common.{◌≡◌, ℕ, ◌<◌, ◌≤◌, Bool, true, false, ◌&&◌, refl, sym, ap, ◌∙◌, arith, ℤ}
use Rattle.std.specs.Prelude.{pos, negsuc, ◌+ℤ◌, ◌-ℤ◌, ◌*ℤ◌, ◌≤ℤ◌, ◌<ℤ◌, int_le}
use Rattle.std.specs.Int.{int_min, int_max}
use Rattle.std.proofs.lemmas.Int.{ints, clamps}
use Rattle.fence_watch.specs.declared.segments.Segment.{Segment}
use Rattle.fence_watch.specs.Segments.{along, Meet, side, have_zero, crosses_line}
use Rattle.fence_watch.proofs.Integers.{mul_sum, mul_comm, mul_difference, difference_mul, turned, exchanged}

pub parts : (a b : Bool) → (a && b) ≡ true → (a ≡ true) × (b ≡ true)
parts true b h = (refl, h)
parts false b h = absurd (let bad : false ≡ true = h in cc)

pub le_of : (a b : ℤ) → int_le a b ≡ true → a ≤ℤ b
le_of a b h = grind (arith, ints)

-- 0 is from the one to the other
pub zero_from : (a b : ℤ) → have_zero a b ≡ true → (int_min a b ≤ℤ pos 0) × (pos 0 ≤ℤ int_max a b)
zero_from a b h =
    let two = parts (int_le (int_min a b) (pos 0)) (int_le (pos 0) (int_max a b)) h in
    (le_of (int_min a b) (pos 0) two.0, le_of (pos 0) (int_max a b) two.1)

-- a number that isn't negative is a natural one
pub natural : (z : ℤ) → pos 0 ≤ℤ z → (n : ℕ) × (z ≡ pos n)
natural (pos n) h = (n, refl)
natural (negsuc n) h = absurd (omega (arith, ints, h))

-- ---- the two sides of one segment's ends differ by the cross product of both ways

abbrev pub cross : (ux uy vx vy : ℤ) → ℤ
cross ux uy vx vy = (ux *ℤ vy) -ℤ (uy *ℤ vx)

cross_sum : (ux uy wx wy vx vy zx zy : ℤ) → zx ≡ wx +ℤ vx → zy ≡ wy +ℤ vy → cross ux uy zx zy ≡ cross ux uy wx wy +ℤ cross ux uy vx vy
cross_sum ux uy wx wy vx vy zx zy at_x at_y =
    rw (at_x, at_y) (added (ux *ℤ (wy +ℤ vy)) (uy *ℤ (wx +ℤ vx)) (ux *ℤ wy) (ux *ℤ vy) (uy *ℤ wx) (uy *ℤ vx) (mul_sum ux wy vy) (mul_sum uy wx vx))
  where
    added : (a b c d e f : ℤ) → a ≡ c +ℤ d → b ≡ e +ℤ f → a -ℤ b ≡ (c -ℤ e) +ℤ (d -ℤ f)
    added a b c d e f p q = omega (arith, ints, p, q)

-- the way from p to q, between points
abbrev pub turn : Segment → Segment → ℤ
turn a b = cross (a.to.x -ℤ a.from.x) (a.to.y -ℤ a.from.y) (b.to.x -ℤ b.from.x) (b.to.y -ℤ b.from.y)

pub far_side : (a b : Segment) → side a.from a.to b.to ≡ side a.from a.to b.from +ℤ turn a b
far_side a b =
    cross_sum (a.to.x -ℤ a.from.x) (a.to.y -ℤ a.from.y) (b.from.x -ℤ a.from.x) (b.from.y -ℤ a.from.y) (b.to.x -ℤ b.from.x) (b.to.y -ℤ b.from.y) (b.to.x -ℤ a.from.x) (b.to.y -ℤ a.from.y)
    (steps b.to.x b.from.x a.from.x) (steps b.to.y b.from.y a.from.y)
  where
    steps : (to from start : ℤ) → to -ℤ start ≡ (from -ℤ start) +ℤ (to -ℤ from)
    steps to from start = omega (arith, ints)

pub opposite_turn : (a b : Segment) → turn b a ≡ pos 0 -ℤ turn a b
opposite_turn a b = opposite (a.to.x -ℤ a.from.x) (a.to.y -ℤ a.from.y) (b.to.x -ℤ b.from.x) (b.to.y -ℤ b.from.y)
  where
    opposite : (ux uy vx vy : ℤ) → cross vx vy ux uy ≡ pos 0 -ℤ cross ux uy vx vy
    opposite ux uy vx vy = omega (arith, ints)

-- ---- Cramer's rule: D w = S u - T v, where D, S and T are the cross products of u and v, of w and v, and of w and u

cramer_x : (ux uy vx vy wx wy : ℤ) → cross ux uy vx vy *ℤ wx ≡ (cross wx wy vx vy *ℤ ux) -ℤ (cross wx wy ux uy *ℤ vx)
cramer_x ux uy vx vy wx wy =
    let d = difference_mul (ux *ℤ vy) (uy *ℤ vx) wx in
    let s = difference_mul (wx *ℤ vy) (wy *ℤ vx) ux in
    let t = difference_mul (wx *ℤ uy) (wy *ℤ ux) vx in
    let first : (ux *ℤ vy) *ℤ wx ≡ (wx *ℤ vy) *ℤ ux = turned ux vy wx ∙ ap (λ n. n *ℤ ux) (mul_comm vy wx) in
    let second : (uy *ℤ vx) *ℤ wx ≡ (wx *ℤ uy) *ℤ vx = exchanged uy vx wx ∙ ap (λ n. n *ℤ vx) (mul_comm uy wx) in
    let third : (wy *ℤ vx) *ℤ ux ≡ (wy *ℤ ux) *ℤ vx = exchanged wy vx ux in
    summed (cross ux uy vx vy *ℤ wx) (cross wx wy vx vy *ℤ ux) (cross wx wy ux uy *ℤ vx) ((ux *ℤ vy) *ℤ wx) ((uy *ℤ vx) *ℤ wx) ((wx *ℤ vy) *ℤ ux) ((wy *ℤ vx) *ℤ ux) ((wx *ℤ uy) *ℤ vx) ((wy *ℤ ux) *ℤ vx) d s t first second third
  where
    summed : (d s t d1 d2 s1 s2 t1 t2 : ℤ) → d ≡ d1 -ℤ d2 → s ≡ s1 -ℤ s2 → t ≡ t1 -ℤ t2 → d1 ≡ s1 → d2 ≡ t1 → s2 ≡ t2 → d ≡ s -ℤ t
    summed d s t d1 d2 s1 s2 t1 t2 e f g h i j = omega (arith, ints, e, f, g, h, i, j)

cramer_y : (ux uy vx vy wx wy : ℤ) → cross ux uy vx vy *ℤ wy ≡ (cross wx wy vx vy *ℤ uy) -ℤ (cross wx wy ux uy *ℤ vy)
cramer_y ux uy vx vy wx wy =
    let d = difference_mul (ux *ℤ vy) (uy *ℤ vx) wy in
    let s = difference_mul (wx *ℤ vy) (wy *ℤ vx) uy in
    let t = difference_mul (wx *ℤ uy) (wy *ℤ ux) vy in
    let first : (ux *ℤ vy) *ℤ wy ≡ (wy *ℤ ux) *ℤ vy = exchanged ux vy wy ∙ ap (λ n. n *ℤ vy) (mul_comm ux wy) in
    let second : (uy *ℤ vx) *ℤ wy ≡ (wy *ℤ vx) *ℤ uy = turned uy vx wy ∙ ap (λ n. n *ℤ uy) (mul_comm vx wy) in
    let third : (wx *ℤ vy) *ℤ uy ≡ (wx *ℤ uy) *ℤ vy = exchanged wx vy uy in
    summed (cross ux uy vx vy *ℤ wy) (cross wx wy vx vy *ℤ uy) (cross wx wy ux uy *ℤ vy) ((ux *ℤ vy) *ℤ wy) ((uy *ℤ vx) *ℤ wy) ((wx *ℤ vy) *ℤ uy) ((wy *ℤ vx) *ℤ uy) ((wx *ℤ uy) *ℤ vy) ((wy *ℤ ux) *ℤ vy) d s t first second third
  where
    summed : (d s t d1 d2 s1 s2 t1 t2 : ℤ) → d ≡ d1 -ℤ d2 → s ≡ s1 -ℤ s2 → t ≡ t1 -ℤ t2 → d1 ≡ t2 → d2 ≡ s2 → s1 ≡ t1 → d ≡ s -ℤ t
    summed d s t d1 d2 s1 s2 t1 t2 e f g h i j = omega (arith, ints, e, f, g, h, i, j)

-- ---- the point in common

-- what the sides are, as cross products with the way w from the first segment's start to the second's
near_side : (a b : Segment) → side a.from a.to b.from ≡ pos 0 -ℤ cross (b.from.x -ℤ a.from.x) (b.from.y -ℤ a.from.y) (a.to.x -ℤ a.from.x) (a.to.y -ℤ a.from.y)
near_side a b = opposite (a.to.x -ℤ a.from.x) (a.to.y -ℤ a.from.y) (b.from.x -ℤ a.from.x) (b.from.y -ℤ a.from.y)
  where
    opposite : (ux uy wx wy : ℤ) → cross ux uy wx wy ≡ pos 0 -ℤ cross wx wy ux uy
    opposite ux uy wx wy = omega (arith, ints)

back_side : (a b : Segment) → side b.from b.to a.from ≡ cross (b.from.x -ℤ a.from.x) (b.from.y -ℤ a.from.y) (b.to.x -ℤ b.from.x) (b.to.y -ℤ b.from.y)
back_side a b =
    turned_round (b.to.x -ℤ b.from.x) (b.to.y -ℤ b.from.y) (a.from.x -ℤ b.from.x) (a.from.y -ℤ b.from.y) (b.from.x -ℤ a.from.x) (b.from.y -ℤ a.from.y) (back a.from.x b.from.x) (back a.from.y b.from.y)
  where
    back : (m n : ℤ) → m -ℤ n ≡ pos 0 -ℤ (n -ℤ m)
    back m n = omega (arith, ints)

    negated : (v w : ℤ) → v *ℤ (pos 0 -ℤ w) ≡ pos 0 -ℤ (w *ℤ v)
    negated v w = mul_difference v (pos 0) w ∙ omega (arith, ints)

    turned_round : (vx vy kx ky wx wy : ℤ) → kx ≡ pos 0 -ℤ wx → ky ≡ pos 0 -ℤ wy → cross vx vy kx ky ≡ cross wx wy vx vy
    turned_round vx vy kx ky wx wy e f = rw (e, f) (both (vx *ℤ (pos 0 -ℤ wy)) (vy *ℤ (pos 0 -ℤ wx)) (wy *ℤ vx) (wx *ℤ vy) (negated vx wy) (negated vy wx))
      where
        both : (a b c d : ℤ) → a ≡ pos 0 -ℤ c → b ≡ pos 0 -ℤ d → a -ℤ b ≡ d -ℤ c
        both a b c d e f = omega (arith, ints, e, f)

-- q w = s u - t v, as places on both ways
placed : (q s t : ℕ) (a0 a1 b0 b1 : ℤ) → pos q *ℤ (b0 -ℤ a0) ≡ (pos s *ℤ (a1 -ℤ a0)) -ℤ (pos t *ℤ (b1 -ℤ b0)) → along q s a0 a1 ≡ along q t b0 b1
placed q s t a0 a1 b0 b1 e = moved (pos q *ℤ (b0 -ℤ a0)) (pos q *ℤ b0) (pos q *ℤ a0) (pos s *ℤ (a1 -ℤ a0)) (pos t *ℤ (b1 -ℤ b0)) (mul_difference (pos q) b0 a0) e
  where
    moved : (d qb qa su tv : ℤ) → d ≡ qb -ℤ qa → d ≡ su -ℤ tv → qa +ℤ su ≡ qb +ℤ tv
    moved d qb qa su tv f g = omega (arith, ints, f, g)

-- where the ways turn to the left
pub left : (a b : Segment) → pos 0 <ℤ turn a b → crosses_line a b ≡ true → crosses_line b a ≡ true → Meet a b
left a b turns over_a over_b =
    let ux = a.to.x -ℤ a.from.x in let uy = a.to.y -ℤ a.from.y in
    let vx = b.to.x -ℤ b.from.x in let vy = b.to.y -ℤ b.from.y in
    let wx = b.from.x -ℤ a.from.x in let wy = b.from.y -ℤ a.from.y in
    let first = zero_from (side a.from a.to b.from) (side a.from a.to b.to) over_a in
    let second = zero_from (side b.from b.to a.from) (side b.from b.to a.to) over_b in
    let bounds_t = bounded (turn a b) (side a.from a.to b.from) (side a.from a.to b.to) (cross wx wy ux uy) turns (far_side a b) (near_side a b) first.0 first.1 in
    let bounds_s = bounded_back (turn a b) (side b.from b.to a.from) (side b.from b.to a.to) (turn b a) (cross wx wy vx vy) turns (far_side b a) (opposite_turn a b) (back_side a b) second.0 second.1 in
    let q = natural (turn a b) (omega (arith, ints, turns)) in
    let s = natural (cross wx wy vx vy) bounds_s.0 in
    let t = natural (cross wx wy ux uy) bounds_t.0 in
    record {
      q = q.0;
      s = s.0;
      t = t.0;
      some = some (turn a b) q.0 q.1 turns;
      on_first = within (cross wx wy vx vy) (turn a b) s.0 q.0 s.1 q.1 bounds_s.1;
      on_second = within (cross wx wy ux uy) (turn a b) t.0 q.0 t.1 q.1 bounds_t.1;
      x = placed q.0 s.0 t.0 a.from.x a.to.x b.from.x b.to.x (named (turn a b) (cross wx wy vx vy) (cross wx wy ux uy) q.0 s.0 t.0 wx ux vx q.1 s.1 t.1 (cramer_x ux uy vx vy wx wy));
      y = placed q.0 s.0 t.0 a.from.y a.to.y b.from.y b.to.y (named (turn a b) (cross wx wy vx vy) (cross wx wy ux uy) q.0 s.0 t.0 wy uy vy q.1 s.1 t.1 (cramer_y ux uy vx vy wx wy));
    }
  where
    bounded : (d near far t : ℤ) → pos 0 <ℤ d → far ≡ near +ℤ d → near ≡ pos 0 -ℤ t → int_min near far ≤ℤ pos 0 → pos 0 ≤ℤ int_max near far → (pos 0 ≤ℤ t) × (t ≤ℤ d)
    bounded d near far t turns e f low high = (omega (arith, ints, clamps, turns, e, f, low, high), omega (arith, ints, clamps, turns, e, f, low, high))

    bounded_back : (d near far back s : ℤ) → pos 0 <ℤ d → far ≡ near +ℤ back → back ≡ pos 0 -ℤ d → near ≡ s → int_min near far ≤ℤ pos 0 → pos 0 ≤ℤ int_max near far → (pos 0 ≤ℤ s) × (s ≤ℤ d)
    bounded_back d near far back s turns e f g low high = (omega (arith, ints, clamps, turns, e, f, g, low, high), omega (arith, ints, clamps, turns, e, f, g, low, high))

    some : (d : ℤ) (q : ℕ) → d ≡ pos q → pos 0 <ℤ d → 0 < q
    some d q e h = omega (arith, ints, e, h)

    within : (s d : ℤ) (m q : ℕ) → s ≡ pos m → d ≡ pos q → s ≤ℤ d → m ≤ q
    within s d m q e f h = omega (arith, ints, e, f, h)

    named : (d s t : ℤ) (q m n : ℕ) (w u v : ℤ) → d ≡ pos q → s ≡ pos m → t ≡ pos n → d *ℤ w ≡ (s *ℤ u) -ℤ (t *ℤ v) → pos q *ℤ w ≡ (pos m *ℤ u) -ℤ (pos n *ℤ v)
    named d s t q m n w u v e f g h = rw (← e, ← f, ← g) h

-- two segments that meet, the other first
pub Meet_sym : (a b : Segment) → Meet a b → Meet b a
Meet_sym a b m = record { q = m.q; s = m.t; t = m.s; some = m.some; on_first = m.on_second; on_second = m.on_first; x = sym m.x; y = sym m.y }

pub right : (a b : Segment) → turn a b <ℤ pos 0 → crosses_line a b ≡ true → crosses_line b a ≡ true → Meet a b
right a b turns over_a over_b = Meet_sym b a (left b a (other (turn a b) (turn b a) (opposite_turn a b) turns) over_b over_a)
  where
    other : (d back : ℤ) → back ≡ pos 0 -ℤ d → d <ℤ pos 0 → pos 0 <ℤ back
    other d back e h = omega (arith, ints, e, h)
