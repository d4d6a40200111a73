-- The test by signs is exact: two segments pass it if and only if they have a point in common.
use Rattle.std.proofs.Common.{◌≡◌, Bool, true, ◌&&◌, arith, ℤ}
use Rattle.std.specs.Prelude.{pos, ◌+ℤ◌, ◌-ℤ◌, ◌≤ℤ◌, ◌↔◌}
use Rattle.std.specs.Int.{int_min, int_max}
use Rattle.std.proofs.lemmas.Int.{ints, clamps, by_lt_z}
use Rattle.fence_watch.specs.declared.segments.Segment.{Segment}
use Rattle.fence_watch.specs.Segments.{Meet, side, crosses_line, overlap, meet}
use Rattle.fence_watch.proofs.Meeting.{passes}
use Rattle.fence_watch.proofs.Crossing.{zero_from, turn, far_side, opposite_turn, left, right}
use Rattle.fence_watch.proofs.OneLine.{Along, on_one_line}

-- neither way turns from the other: both ends of one lie on the other's line
straight : (a b : Segment) → pos 0 ≤ℤ turn a b → turn a b ≤ℤ pos 0 → crosses_line a b ≡ true → crosses_line b a ≡ true → Along a b
straight a b low high over_a over_b =
    let first = zero_from (side a.from a.to b.from) (side a.from a.to b.to) over_a in
    let second = zero_from (side b.from b.to a.from) (side b.from b.to a.to) over_b in
    let here = at_zero (turn a b) (turn a b) (side a.from a.to b.from) (side a.from a.to b.to) low high (forward (turn a b)) (far_side a b) first.0 first.1 in
    let there = at_zero (turn a b) (turn b a) (side b.from b.to a.from) (side b.from b.to a.to) low high (backward (turn a b) (turn b a) (opposite_turn a b)) (far_side b a) second.0 second.1 in
    record { start = here.0; end = here.1; back_start = there.0; back_end = there.1 }
  where
    at_zero : (d e near far : ℤ) → pos 0 ≤ℤ d → d ≤ℤ pos 0 → (d ≤ℤ pos 0 → pos 0 ≤ℤ d → e ≡ pos 0) → far ≡ near +ℤ e → int_min near far ≤ℤ pos 0 → pos 0 ≤ℤ int_max near far → (near ≡ pos 0) × (far ≡ pos 0)
    at_zero d e near far low high none f below above =
        let zero = none high low in
        (omega (arith, ints, clamps, zero, f, below, above), omega (arith, ints, clamps, zero, f, below, above))

    forward : (d : ℤ) → d ≤ℤ pos 0 → pos 0 ≤ℤ d → d ≡ pos 0
    forward d high low = omega (arith, ints, high, low)

    backward : (d e : ℤ) → e ≡ pos 0 -ℤ d → d ≤ℤ pos 0 → pos 0 ≤ℤ d → e ≡ pos 0
    backward d e f high low = omega (arith, ints, f, high, low)

have_point : (a b : Segment) → meet a b ≡ true → Meet a b
have_point a b h =
    let all = four (overlap a.from.x a.to.x b.from.x b.to.x) (overlap a.from.y a.to.y b.from.y b.to.y) (crosses_line a b) (crosses_line b a) h in
    by_lt_z (pos 0) (turn a b) (λ turns. left a b turns all.2 all.3) (λ high.
    by_lt_z (turn a b) (pos 0) (λ turns. right a b turns all.2 all.3) (λ low.
    on_one_line a b all.0 all.1 (straight a b low high all.2 all.3)))
  where
    four : (a b c d : Bool) → ((a && b) && (c && d)) ≡ true → (a ≡ true) × (b ≡ true) × (c ≡ true) × (d ≡ true)
    four a b c d h = grind arith

-- the law
pub exact : (a b : Segment) → (meet a b ≡ true) ↔ Meet a b
exact a b = (have_point a b, passes a b)
