-- Segments on one line, or on parallel ones, that pass the test by signs have a point in common.
use Rattle.std.proofs.Common.{◌≡◌, ◌⊎◌, inl, inr, ℕ, ◌-◌, ◌<◌, ◌≤◌, true, refl, sym, ap, ◌∙◌, arith, ℤ}
use Rattle.std.specs.Prelude.{pos, ◌+ℤ◌, ◌-ℤ◌, ◌*ℤ◌, ◌≤ℤ◌, int_le}
use Rattle.std.specs.Int.{int_min, int_max}
use Rattle.std.proofs.lemmas.Int.{ints, clamps}
use mathlib.Core.Logic.{dite}
use lib.IntN.{ℤ_discrete}
use Rattle.drone_sim.specs.declared.points.Point.{Point}
use Rattle.fence_watch.specs.declared.segments.Segment.{Segment}
use Rattle.fence_watch.specs.Segments.{along, Meet, side, overlap}
use Rattle.fence_watch.proofs.Integers.{mul_comm, mul_difference}
use Rattle.fence_watch.proofs.Meeting.{weighed_of}
use Rattle.fence_watch.proofs.Crossing.{parts, le_of, natural, Meet_sym}

-- a number is from one to the other, whichever is greater
abbrev Between : ℤ → ℤ → ℤ → Type 0
Between a b n = ((a ≤ℤ n) × (n ≤ℤ b)) ⊎ ((b ≤ℤ n) × (n ≤ℤ a))

-- ---- the same segments in another order, or with the coordinates exchanged

abbrev backwards : Segment → Segment
backwards a = record { from = a.to; to = a.from }

abbrev mirrored_point : Point → Point
mirrored_point p = record { x = p.y; y = p.x }

abbrev pub mirrored : Segment → Segment
mirrored a = record { from = mirrored_point a.from; to = mirrored_point a.to }

-- t/q of the way forwards is (q - t)/q of the way back
returned : (q t : ℕ) (a b : ℤ) → t ≤ q → along q (q - t) b a ≡ along q t a b
returned q t a b h =
    weighed_of q (q - t) b a (omega (arith, h)) ∙ (swap (q - (q - t)) t (q - t) (omega (arith, h)) ∙ sym (weighed_of q t a b h))
  where
    swap : (m n k : ℕ) → m ≡ n → (pos m *ℤ b) +ℤ (pos k *ℤ a) ≡ (pos k *ℤ a) +ℤ (pos n *ℤ b)
    swap m n k e = rw e (added (pos n *ℤ b) (pos k *ℤ a))
      where
        added : (x y : ℤ) → x +ℤ y ≡ y +ℤ x
        added x y = omega (arith, ints)

meet_backwards : (a b : Segment) → Meet a (backwards b) → Meet a b
meet_backwards a b m = record {
  q = m.q;
  s = m.s;
  t = m.q - m.t;
  some = m.some;
  on_first = m.on_first;
  on_second = omega arith;
  x = m.x ∙ sym (returned m.q m.t b.to.x b.from.x m.on_second);
  y = m.y ∙ sym (returned m.q m.t b.to.y b.from.y m.on_second);
}

pub meet_mirrored : (a b : Segment) → Meet (mirrored a) (mirrored b) → Meet a b
meet_mirrored a b m = record { q = m.q; s = m.s; t = m.t; some = m.some; on_first = m.on_first; on_second = m.on_second; x = m.y; y = m.x }

-- ---- a point of the line through a segment that isn't a point

-- u y = v x on the line, for s and q as x and u, or as what they lack to 0
at_part : (q s : ℕ) (u v x y : ℤ) → u *ℤ y ≡ v *ℤ x → ((pos q ≡ u) × (pos s ≡ x)) ⊎ ((pos q ≡ pos 0 -ℤ u) × (pos s ≡ pos 0 -ℤ x)) → pos q *ℤ y ≡ pos s *ℤ v
at_part q s u v x y line (inl h) = rw (h.0, h.1) (line ∙ mul_comm v x)
at_part q s u v x y line (inr h) = rw (h.0, h.1) (negated u v x y line)
  where
    less : (a b : ℤ) → (pos 0 -ℤ a) *ℤ b ≡ pos 0 -ℤ (a *ℤ b)
    less a b = mul_comm (pos 0 -ℤ a) b ∙ (mul_difference b (pos 0) a ∙ omega (arith, ints))

    negated : (u v x y : ℤ) → u *ℤ y ≡ v *ℤ x → (pos 0 -ℤ u) *ℤ y ≡ (pos 0 -ℤ x) *ℤ v
    negated u v x y e = less u y ∙ (ap (λ n. pos 0 -ℤ n) (e ∙ mul_comm v x) ∙ sym (less x v))

-- a point whose x is between those of the ends, as a part of the way
record Part (u x : ℤ) : Type 0 where
  q : ℕ
  s : ℕ
  some : 0 < q
  within : s ≤ q
  as_parts : ((pos q ≡ u) × (pos s ≡ x)) ⊎ ((pos q ≡ pos 0 -ℤ u) × (pos s ≡ pos 0 -ℤ x))

part_of : (a b n : ℤ) → Between a b n → ¬ (b -ℤ a ≡ pos 0) → Part (b -ℤ a) (n -ℤ a)
part_of a b n (inl h) wide =
    let q = natural (b -ℤ a) (omega (arith, ints, h.0, h.1)) in
    let s = natural (n -ℤ a) (omega (arith, ints, h.0, h.1)) in
    record { q = q.0; s = s.0; some = above q.0 (λ e. wide (q.1 ∙ ap pos e)); within = omega (arith, ints, q.1, s.1, h.0, h.1); as_parts = inl (sym q.1, sym s.1) }
  where
    above : (k : ℕ) → ¬ (k ≡ 0) → 0 < k
    above k none = omega (arith, none)
part_of a b n (inr h) wide =
    let q = natural (pos 0 -ℤ (b -ℤ a)) (omega (arith, ints, h.0, h.1)) in
    let s = natural (pos 0 -ℤ (n -ℤ a)) (omega (arith, ints, h.0, h.1)) in
    record { q = q.0; s = s.0; some = above q.0 (λ e. wide (back (b -ℤ a) (q.1 ∙ ap pos e))); within = omega (arith, ints, q.1, s.1, h.0, h.1); as_parts = inr (sym q.1, sym s.1) }
  where
    above : (k : ℕ) → ¬ (k ≡ 0) → 0 < k
    above k none = omega (arith, none)

    back : (u : ℤ) → pos 0 -ℤ u ≡ pos 0 → u ≡ pos 0
    back u e = omega (arith, ints, e)

-- the start of the second segment is there
at_start : (q s : ℕ) (a b c d : ℤ) → pos q *ℤ (c -ℤ a) ≡ pos s *ℤ (b -ℤ a) → along q s a b ≡ along q 0 c d
at_start q s a b c d e = moved (pos q *ℤ (c -ℤ a)) (pos q *ℤ c) (pos q *ℤ a) (pos s *ℤ (b -ℤ a)) (pos 0 *ℤ (d -ℤ c)) (mul_difference (pos q) c a) e (omega (arith, ints))
  where
    moved : (d qc qa su none : ℤ) → d ≡ qc -ℤ qa → d ≡ su → none ≡ pos 0 → qa +ℤ su ≡ qc +ℤ none
    moved d qc qa su none f g h = omega (arith, ints, f, g, h)

start_between : (a b : Segment) → Between a.from.x a.to.x b.from.x → ¬ (a.to.x -ℤ a.from.x ≡ pos 0) → side a.from a.to b.from ≡ pos 0 → Meet a b
start_between a b there wide line =
    let p = part_of a.from.x a.to.x b.from.x there wide in
    let equal = line_of ((a.to.x -ℤ a.from.x) *ℤ (b.from.y -ℤ a.from.y)) ((a.to.y -ℤ a.from.y) *ℤ (b.from.x -ℤ a.from.x)) line in
    record {
      q = p.q;
      s = p.s;
      t = 0;
      some = p.some;
      on_first = p.within;
      on_second = omega arith;
      x = at_start p.q p.s a.from.x a.to.x b.from.x b.to.x (at_part p.q p.s (a.to.x -ℤ a.from.x) (a.to.x -ℤ a.from.x) (b.from.x -ℤ a.from.x) (b.from.x -ℤ a.from.x) refl p.as_parts);
      y = at_start p.q p.s a.from.y a.to.y b.from.y b.to.y (at_part p.q p.s (a.to.x -ℤ a.from.x) (a.to.y -ℤ a.from.y) (b.from.x -ℤ a.from.x) (b.from.y -ℤ a.from.y) equal p.as_parts);
    }
  where
    line_of : (m n : ℤ) → m -ℤ n ≡ pos 0 → m ≡ n
    line_of m n e = omega (arith, ints, e)

end_between : (a b : Segment) → Between a.from.x a.to.x b.to.x → ¬ (a.to.x -ℤ a.from.x ≡ pos 0) → side a.from a.to b.to ≡ pos 0 → Meet a b
end_between a b there wide line = meet_backwards a b (start_between a (backwards b) there wide line)

-- ---- two segments of which no end lies beside the other's line

pub record Along (a b : Segment) : Type 0 where
  pub start : side a.from a.to b.from ≡ pos 0
  pub end : side a.from a.to b.to ≡ pos 0
  pub back_start : side b.from b.to a.from ≡ pos 0
  pub back_end : side b.from b.to a.to ≡ pos 0

abbrev OneInside : ℤ → ℤ → ℤ → ℤ → Type 0
OneInside a b c d = Between a b c ⊎ (Between a b d ⊎ (Between c d a ⊎ Between c d b))

spans : (a b c d : ℤ) → overlap a b c d ≡ true → (int_min a b ≤ℤ int_max c d) × (int_min c d ≤ℤ int_max a b)
spans a b c d h =
    let two = parts (int_le (int_min a b) (int_max c d)) (int_le (int_min c d) (int_max a b)) h in
    (le_of (int_min a b) (int_max c d) two.0, le_of (int_min c d) (int_max a b) two.1)

one_inside : (a b c d : ℤ) → int_min a b ≤ℤ int_max c d → int_min c d ≤ℤ int_max a b → OneInside a b c d
one_inside a b c d first second = grind (arith, ints, clamps)

single : (a b c d : ℤ) → int_min a b ≤ℤ int_max c d → int_min c d ≤ℤ int_max a b → d -ℤ c ≡ pos 0 → Between a b c
single a b c d first second e = grind (arith, ints, clamps)

flipped : (a b : Segment) → Along a b → Along b a
flipped a b h = record { start = h.back_start; end = h.back_end; back_start = h.start; back_end = h.end }

-- both are more than a point in x
both_wide : (a b : Segment) → OneInside a.from.x a.to.x b.from.x b.to.x → ¬ (a.to.x -ℤ a.from.x ≡ pos 0) → ¬ (b.to.x -ℤ b.from.x ≡ pos 0) → Along a b → Meet a b
both_wide a b (inl there) wide_a wide_b h = start_between a b there wide_a h.start
both_wide a b (inr (inl there)) wide_a wide_b h = end_between a b there wide_a h.end
both_wide a b (inr (inr (inl there))) wide_a wide_b h = Meet_sym b a (start_between b a there wide_b h.back_start)
both_wide a b (inr (inr (inr there))) wide_a wide_b h = Meet_sym b a (end_between b a there wide_b h.back_end)

-- one of them is
wide : (a b : Segment) → overlap a.from.x a.to.x b.from.x b.to.x ≡ true → Along a b → ¬ ((a.to.x -ℤ a.from.x ≡ pos 0) × (b.to.x -ℤ b.from.x ≡ pos 0)) → Meet a b
wide a b over h some =
    let at = spans a.from.x a.to.x b.from.x b.to.x over in
    dite (ℤ_discrete (a.to.x -ℤ a.from.x) (pos 0))
    (λ narrow_a. dite (ℤ_discrete (b.to.x -ℤ b.from.x) (pos 0))
    (λ narrow_b. absurd (some (narrow_a, narrow_b)))
    (λ wide_b. Meet_sym b a (start_between b a (single b.from.x b.to.x a.from.x a.to.x at.1 at.0 narrow_a) wide_b h.back_start)))
    (λ wide_a. dite (ℤ_discrete (b.to.x -ℤ b.from.x) (pos 0))
    (λ narrow_b. start_between a b (single a.from.x a.to.x b.from.x b.to.x at.0 at.1 narrow_b) wide_a h.start)
    (λ wide_b. both_wide a b (one_inside a.from.x a.to.x b.from.x b.to.x at.0 at.1) wide_a wide_b h))

side_mirrored : (o a p : Point) → side o a p ≡ pos 0 → side (mirrored_point o) (mirrored_point a) (mirrored_point p) ≡ pos 0
side_mirrored o a p e = opposite ((a.x -ℤ o.x) *ℤ (p.y -ℤ o.y)) ((a.y -ℤ o.y) *ℤ (p.x -ℤ o.x)) e
  where
    opposite : (m n : ℤ) → m -ℤ n ≡ pos 0 → n -ℤ m ≡ pos 0
    opposite m n e = omega (arith, ints, e)

along_mirrored : (a b : Segment) → Along a b → Along (mirrored a) (mirrored b)
along_mirrored a b h = record {
  start = side_mirrored a.from a.to b.from h.start;
  end = side_mirrored a.from a.to b.to h.end;
  back_start = side_mirrored b.from b.to a.from h.back_start;
  back_end = side_mirrored b.from b.to a.to h.back_end;
}

-- two points
points : (a b : Segment) → overlap a.from.x a.to.x b.from.x b.to.x ≡ true → overlap a.from.y a.to.y b.from.y b.to.y ≡ true
    → (a.to.x -ℤ a.from.x ≡ pos 0) × (b.to.x -ℤ b.from.x ≡ pos 0) → (a.to.y -ℤ a.from.y ≡ pos 0) × (b.to.y -ℤ b.from.y ≡ pos 0) → Meet a b
points a b over_x over_y narrow_x narrow_y =
    let at_x = spans a.from.x a.to.x b.from.x b.to.x over_x in
    let at_y = spans a.from.y a.to.y b.from.y b.to.y over_y in
    record {
      q = 1;
      s = 0;
      t = 0;
      some = omega arith;
      on_first = omega arith;
      on_second = omega arith;
      x = here a.from.x a.to.x b.from.x b.to.x (same a.from.x a.to.x b.from.x b.to.x at_x.0 at_x.1 narrow_x.0 narrow_x.1);
      y = here a.from.y a.to.y b.from.y b.to.y (same a.from.y a.to.y b.from.y b.to.y at_y.0 at_y.1 narrow_y.0 narrow_y.1);
    }
  where
    same : (a b c d : ℤ) → int_min a b ≤ℤ int_max c d → int_min c d ≤ℤ int_max a b → b -ℤ a ≡ pos 0 → d -ℤ c ≡ pos 0 → a ≡ c
    same a b c d first second e f = omega (arith, ints, clamps, first, second, e, f)

    here : (a b c d : ℤ) → a ≡ c → along 1 0 a b ≡ along 1 0 c d
    here a b c d e = omega (arith, ints, e)

pub on_one_line : (a b : Segment) → overlap a.from.x a.to.x b.from.x b.to.x ≡ true → overlap a.from.y a.to.y b.from.y b.to.y ≡ true → Along a b → Meet a b
on_one_line a b over_x over_y h =
    dite (ℤ_discrete (a.to.x -ℤ a.from.x) (pos 0))
    (λ narrow_a. dite (ℤ_discrete (b.to.x -ℤ b.from.x) (pos 0))
    (λ narrow_b. in_y (narrow_a, narrow_b))
    (λ wide_b. wide a b over_x h (λ narrow. wide_b narrow.1)))
    (λ wide_a. wide a b over_x h (λ narrow. wide_a narrow.0))
  where
    in_y : (a.to.x -ℤ a.from.x ≡ pos 0) × (b.to.x -ℤ b.from.x ≡ pos 0) → Meet a b
    in_y narrow_x =
        dite (ℤ_discrete (a.to.y -ℤ a.from.y) (pos 0))
        (λ narrow_a. dite (ℤ_discrete (b.to.y -ℤ b.from.y) (pos 0))
        (λ narrow_b. points a b over_x over_y narrow_x (narrow_a, narrow_b))
        (λ wide_b. meet_mirrored a b (wide (mirrored a) (mirrored b) over_y (along_mirrored a b h) (λ narrow. wide_b narrow.1))))
        (λ wide_a. meet_mirrored a b (wide (mirrored a) (mirrored b) over_y (along_mirrored a b h) (λ narrow. wide_a narrow.0)))
