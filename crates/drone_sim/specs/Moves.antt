-- How a drone moves in one tick, in whole units of 1e-7 degrees: the latitude and the longitude each by itself.
use Rattle.std.specs.Prelude.{ℕ, ℤ, pos, ◌+ℤ◌, ◌-ℤ◌, Bool, ◌&&◌}
use Rattle.std.specs.Int.{int_min, int_max}
use Rattle.std.specs.Ordering.{int_eq}
use Rattle.drone_sim.specs.declared.points.Point.{Point}

-- the number nearest to the target that is at most a step away
abbrev pub towards : ℕ → ℤ → ℤ → ℤ
towards step from target = int_max (from -ℤ pos step) (int_min target (from +ℤ pos step))

abbrev pub moved : ℕ → Point → Point → Point
moved step from target = record { x = towards step from.x target.x; y = towards step from.y target.y }

abbrev pub is_at : Point → Point → Bool
is_at position target = int_eq position.x target.x && int_eq position.y target.y
