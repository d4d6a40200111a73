-- Segments that have a point in common pass the test by signs.
use Rattle.std.proofs.Common.{◌≡◌, ℕ, ◌+◌, ◌-◌, ◌<◌, ◌≤◌, Bool, true, ◌&&◌, refl, sym, ap, ◌∙◌, subst, arith, ℤ}
use Rattle.std.specs.Prelude.{pos, ◌+ℤ◌, ◌-ℤ◌, ◌*ℤ◌, ◌≤ℤ◌, ◌<ℤ◌, int_le}
use Rattle.std.specs.Int.{int_min, int_max}
use Rattle.std.proofs.Math.Nat.{mul-le-mul_left}
use Rattle.std.proofs.lemmas.Int.{ints, clamps, by_lt_z}
use Rattle.fence_watch.specs.declared.segments.Segment.{Segment}
use Rattle.fence_watch.specs.Segments.{along, Meet, side, have_zero, crosses_line, overlap, meet}
use Rattle.fence_watch.proofs.Integers.{mul_sum, mul_difference, swapped}
use borrow.Author.Differences.{up, down}

-- what lies s/q of the way has both ends by their weights
pub weighed : (r s : ℕ) (a b : ℤ) → along (r + s) s a b ≡ (pos r *ℤ a) +ℤ (pos s *ℤ b)
weighed r s a b = omega (arith, ints, mul_difference (pos s) b a)

above : (r s : ℕ) (a b m : ℤ) → 0 < r + s → m <ℤ a → m <ℤ b → (pos (r + s) *ℤ m) <ℤ ((pos r *ℤ a) +ℤ (pos s *ℤ b))
above r s a b m some low_a low_b =
    let from_a : up m + down a + 1 ≤ up a + down m = omega (arith, ints, low_a) in
    let from_b : up m + down b + 1 ≤ up b + down m = omega (arith, ints, low_b) in
    omega (arith, ints, mul-le-mul_left r from_a, mul-le-mul_left s from_b)

at_most : (r s : ℕ) (a b m : ℤ) → a ≤ℤ m → b ≤ℤ m → ((pos r *ℤ a) +ℤ (pos s *ℤ b)) ≤ℤ (pos (r + s) *ℤ m)
at_most r s a b m high_a high_b =
    let from_a : up a + down m ≤ up m + down a = omega (arith, ints, high_a) in
    let from_b : up b + down m ≤ up m + down b = omega (arith, ints, high_b) in
    omega (arith, ints, mul-le-mul_left r from_a, mul-le-mul_left s from_b)

parted : (q s : ℕ) → s ≤ q → (q - s) + s ≡ q
parted q s h = omega arith

pub weighed_of : (q s : ℕ) (a b : ℤ) → s ≤ q → along q s a b ≡ (pos (q - s) *ℤ a) +ℤ (pos s *ℤ b)
weighed_of q s a b h = ap (λ n. along n s a b) (sym (parted q s h)) ∙ weighed (q - s) s a b

is_above : (q s : ℕ) (a b m : ℤ) → 0 < q → s ≤ q → m <ℤ a → m <ℤ b → (pos q *ℤ m) <ℤ along q s a b
is_above q s a b m some h low_a low_b =
    subst (λ n. (pos q *ℤ m) <ℤ n) (sym (weighed_of q s a b h))
    (subst (λ n. (pos n *ℤ m) <ℤ ((pos (q - s) *ℤ a) +ℤ (pos s *ℤ b))) (parted q s h) (above (q - s) s a b m (omega (arith, some, h)) low_a low_b))

is_at_most : (q s : ℕ) (a b m : ℤ) → s ≤ q → a ≤ℤ m → b ≤ℤ m → along q s a b ≤ℤ (pos q *ℤ m)
is_at_most q s a b m h high_a high_b =
    subst (λ n. n ≤ℤ (pos q *ℤ m)) (sym (weighed_of q s a b h))
    (subst (λ n. ((pos (q - s) *ℤ a) +ℤ (pos s *ℤ b)) ≤ℤ (pos n *ℤ m)) (parted q s h) (at_most (q - s) s a b m high_a high_b))

-- two pairs of numbers that give the same on the way aren't apart
reaches : (q s t : ℕ) (a b c d : ℤ) → 0 < q → s ≤ q → t ≤ q → along q s a b ≡ along q t c d → int_min a b ≤ℤ int_max c d
reaches q s t a b c d some first second e =
    by_lt_z (int_max c d) (int_min a b) (λ apart.
    let high = is_at_most q t c d (int_max c d) second (omega (arith, ints, clamps)) (omega (arith, ints, clamps)) in
    let low = is_above q s a b (int_max c d) some first (omega (arith, ints, clamps, apart)) (omega (arith, ints, clamps, apart)) in
    let low_too = subst (λ n. (pos q *ℤ int_max c d) <ℤ n) e low in
    absurd (omega (arith, ints, high, low_too))) (λ h. h)

is_le : (a b : ℤ) → a ≤ℤ b → int_le a b ≡ true
is_le a b h = grind (arith, ints)

both : (a b : Bool) → a ≡ true → b ≡ true → (a && b) ≡ true
both a b e f = rw (e, f) refl

pub overlaps : (q s t : ℕ) (a b c d : ℤ) → 0 < q → s ≤ q → t ≤ q → along q s a b ≡ along q t c d → overlap a b c d ≡ true
overlaps q s t a b c d some first second e =
    both _ _ (is_le _ _ (reaches q s t a b c d some first second e)) (is_le _ _ (reaches q t s c d a b some second first (sym e)))

-- two numbers with 0 on the way between them
pub zero_between : (q s : ℕ) (a b : ℤ) → 0 < q → s ≤ q → along q s a b ≡ pos 0 → have_zero a b ≡ true
zero_between q s a b some h e = overlaps q s 0 a b (pos 0) (pos 0) some h (omega arith) (e ∙ omega (arith, ints))

-- ---- a point of one line has a side of 0

scaled : (r ux uy wx wy : ℤ) → r *ℤ ((ux *ℤ wy) -ℤ (uy *ℤ wx)) ≡ (ux *ℤ (r *ℤ wy)) -ℤ (uy *ℤ (r *ℤ wx))
scaled r ux uy wx wy = mul_difference r (ux *ℤ wy) (uy *ℤ wx) ∙ (ap (λ n. n -ℤ (r *ℤ (uy *ℤ wx))) (swapped r ux wy) ∙ ap (λ n. (ux *ℤ (r *ℤ wy)) -ℤ n) (swapped r uy wx))

apart_none : (a b c d m n : ℤ) → m ≡ a +ℤ c → n ≡ b +ℤ d → m ≡ n → (a -ℤ b) +ℤ (c -ℤ d) ≡ pos 0
apart_none a b c d m n e f g = omega (arith, ints, e, f, g)

on_line : (r t s ux uy wx wy zx zy : ℤ) → s *ℤ ux ≡ (r *ℤ wx) +ℤ (t *ℤ zx) → s *ℤ uy ≡ (r *ℤ wy) +ℤ (t *ℤ zy) → (r *ℤ ((ux *ℤ wy) -ℤ (uy *ℤ wx))) +ℤ (t *ℤ ((ux *ℤ zy) -ℤ (uy *ℤ zx))) ≡ pos 0
on_line r t s ux uy wx wy zx zy at_x at_y =
    let x : ux *ℤ (s *ℤ uy) ≡ (ux *ℤ (r *ℤ wy)) +ℤ (ux *ℤ (t *ℤ zy)) = ap (λ n. ux *ℤ n) at_y ∙ mul_sum ux (r *ℤ wy) (t *ℤ zy) in
    let y : uy *ℤ (s *ℤ ux) ≡ (uy *ℤ (r *ℤ wx)) +ℤ (uy *ℤ (t *ℤ zx)) = ap (λ n. uy *ℤ n) at_x ∙ mul_sum uy (r *ℤ wx) (t *ℤ zx) in
    let same : ux *ℤ (s *ℤ uy) ≡ uy *ℤ (s *ℤ ux) = swapped ux s uy ∙ (ap (λ n. s *ℤ n) (omega (arith, ints)) ∙ swapped s uy ux) in
    ap (λ n. n +ℤ (t *ℤ ((ux *ℤ zy) -ℤ (uy *ℤ zx)))) (scaled r ux uy wx wy) ∙ (ap (λ n. ((ux *ℤ (r *ℤ wy)) -ℤ (uy *ℤ (r *ℤ wx))) +ℤ n) (scaled t ux uy zx zy) ∙ apart_none (ux *ℤ (r *ℤ wy)) (uy *ℤ (r *ℤ wx)) (ux *ℤ (t *ℤ zy)) (uy *ℤ (t *ℤ zx)) (ux *ℤ (s *ℤ uy)) (uy *ℤ (s *ℤ ux)) x y same)

-- the same point, seen from a
seen : (q s t : ℕ) (a b c d : ℤ) → t ≤ q → along q s a b ≡ along q t c d → pos s *ℤ (b -ℤ a) ≡ (pos (q - t) *ℤ (c -ℤ a)) +ℤ (pos t *ℤ (d -ℤ a))
seen q s t a b c d h e =
    let whole : (pos q *ℤ a) +ℤ (pos s *ℤ (b -ℤ a)) ≡ (pos (q - t) *ℤ c) +ℤ (pos t *ℤ d) = e ∙ weighed_of q t c d h in
    let weights : pos q *ℤ a ≡ (pos (q - t) *ℤ a) +ℤ (pos t *ℤ a) = ap (λ n. pos n *ℤ a) (sym (parted q t h)) ∙ shares (q - t) t a in
    moved (pos q *ℤ a) (pos s *ℤ (b -ℤ a)) (pos (q - t) *ℤ c) (pos t *ℤ d) (pos (q - t) *ℤ a) (pos t *ℤ a) whole weights
    ∙ (ap (λ n. n +ℤ ((pos t *ℤ d) -ℤ (pos t *ℤ a))) (sym (mul_difference (pos (q - t)) c a)) ∙ ap (λ n. (pos (q - t) *ℤ (c -ℤ a)) +ℤ n) (sym (mul_difference (pos t) d a)))
  where
    shares : (r t : ℕ) (a : ℤ) → pos (r + t) *ℤ a ≡ (pos r *ℤ a) +ℤ (pos t *ℤ a)
    shares r t a = omega (arith, ints)

    moved : (qa su rc td ra ta : ℤ) → qa +ℤ su ≡ rc +ℤ td → qa ≡ ra +ℤ ta → su ≡ (rc -ℤ ra) +ℤ (td -ℤ ta)
    moved qa su rc td ra ta e f = omega (arith, ints, e, f)

crosses : (a b : Segment) (q s t : ℕ) → 0 < q → t ≤ q → along q s a.from.x a.to.x ≡ along q t b.from.x b.to.x → along q s a.from.y a.to.y ≡ along q t b.from.y b.to.y → crosses_line a b ≡ true
crosses a b q s t some h at_x at_y =
    zero_between q t (side a.from a.to b.from) (side a.from a.to b.to) some h
    (weighed_of q t (side a.from a.to b.from) (side a.from a.to b.to) h
    ∙ on_line (pos (q - t)) (pos t) (pos s) (a.to.x -ℤ a.from.x) (a.to.y -ℤ a.from.y) (b.from.x -ℤ a.from.x) (b.from.y -ℤ a.from.y) (b.to.x -ℤ a.from.x) (b.to.y -ℤ a.from.y)
    (seen q s t a.from.x a.to.x b.from.x b.to.x h at_x) (seen q s t a.from.y a.to.y b.from.y b.to.y h at_y))

pub passes : (a b : Segment) → Meet a b → meet a b ≡ true
passes a b m =
    four _ _ _ _ (overlaps m.q m.s m.t a.from.x a.to.x b.from.x b.to.x m.some m.on_first m.on_second m.x)
    (overlaps m.q m.s m.t a.from.y a.to.y b.from.y b.to.y m.some m.on_first m.on_second m.y)
    (crosses a b m.q m.s m.t m.some m.on_second m.x m.y)
    (crosses b a m.q m.t m.s m.some m.on_first (sym m.x) (sym m.y))
  where
    four : (a b c d : Bool) → a ≡ true → b ≡ true → c ≡ true → d ≡ true → ((a && b) && (c && d)) ≡ true
    four a b c d e f g h = rw (e, f, g, h) refl
