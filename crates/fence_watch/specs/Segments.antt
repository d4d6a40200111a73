-- Segments between points of the plane with whole coordinates: when two of them meet.
use Rattle.std.specs.Prelude.{◌≡◌, ℕ, ◌<◌, ◌≤◌, ℤ, pos, ◌+ℤ◌, ◌-ℤ◌, ◌*ℤ◌, int_le, Bool, ◌&&◌}
use Rattle.std.specs.Int.{int_min, int_max}
use Rattle.drone_sim.specs.declared.points.Point.{Point}
use Rattle.fence_watch.specs.declared.segments.Segment.{Segment}

-- q times what lies s/q of the way from a to b
abbrev pub along : ℕ → ℕ → ℤ → ℤ → ℤ
along q s a b = (pos q *ℤ a) +ℤ (pos s *ℤ (b -ℤ a))

-- two closed segments have a point in common, which lies s/q of the way along the one and t/q along the other
pub record Meet (a b : Segment) : Type 0 where
  pub q : ℕ
  pub s : ℕ
  pub t : ℕ
  pub some : 0 < q
  pub on_first : s ≤ q
  pub on_second : t ≤ q
  pub x : along q s a.from.x a.to.x ≡ along q t b.from.x b.to.x
  pub y : along q s a.from.y a.to.y ≡ along q t b.from.y b.to.y

-- ---- the same by signs

-- on which side of the line through o and a the point p lies: the cross product of the ways from o to a and to p,
-- which is 0 on the line
abbrev pub side : Point → Point → Point → ℤ
side o a p = ((a.x -ℤ o.x) *ℤ (p.y -ℤ o.y)) -ℤ ((a.y -ℤ o.y) *ℤ (p.x -ℤ o.x))

-- two numbers are not both above 0 and not both below
abbrev pub have_zero : ℤ → ℤ → Bool
have_zero m n = int_le (int_min m n) (pos 0) && int_le (pos 0) (int_max m n)

-- the ends of a segment aren't both on one side of a line
abbrev pub crosses_line : Segment → Segment → Bool
crosses_line line b = have_zero (side line.from line.to b.from) (side line.from line.to b.to)

-- the numbers from a to b and those from c to d have one in common
abbrev pub overlap : ℤ → ℤ → ℤ → ℤ → Bool
overlap a b c d = int_le (int_min a b) (int_max c d) && int_le (int_min c d) (int_max a b)

-- the least upright rectangles about two segments have a point in common
abbrev pub boxes_overlap : Segment → Segment → Bool
boxes_overlap a b = overlap a.from.x a.to.x b.from.x b.to.x && overlap a.from.y a.to.y b.from.y b.to.y

-- each crosses the other's line
abbrev pub straddle : Segment → Segment → Bool
straddle a b = crosses_line a b && crosses_line b a

abbrev pub meet : Segment → Segment → Bool
meet a b = boxes_overlap a b && straddle a b
