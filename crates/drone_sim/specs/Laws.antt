-- What the laws of this crate speak of.
use Rattle.std.specs.Prelude.{ℕ, zero, suc, ℤ, ◌≤ℤ◌, ◌+ℤ◌, pos, ◌<◌, ◌^◌, ◌⊎◌, List, slice_get, Option, Some, None}
use Rattle.std.specs.Prelude.{IfSome, All, FitsSigned}
use Rattle.std.specs.Int.{w32}
use Rattle.plan_items.specs.declared.items.Item.{Item}
use Rattle.drone_sim.specs.declared.courses.Course.TheVariants.{Disarmed, Resting, Flying, Returning}
use Rattle.drone_sim.specs.declared.points.Point.{Point}
use Rattle.drone_sim.specs.declared.courses.Course.{Course}
use Rattle.drone_sim.specs.Sim.{SimState, SimTick, location_of, target_of, sim_tick}

-- where an item that there may not be sends a drone
abbrev pub target_at : Point → Option Item → Option Point
target_at home None = None
target_at home (Some item) = target_of home item

-- where a drone on that course over these items is heading, if it moves
abbrev pub target_on : Point → List Item → Course → Option Point
target_on home items Disarmed = None
target_on home items Resting = None
target_on home items (Flying number) = target_at home (slice_get items number)
target_on home items Returning = Some home

abbrev pub target_now : SimState → List Item → Option Point
target_now s items = target_on s.home items s.course

-- from one number to another, whichever is greater
abbrev pub IsBetween : ℤ → ℤ → ℤ → Type 0
IsBetween a z n = ((a ≤ℤ n) × (n ≤ℤ z)) ⊎ ((z ≤ℤ n) × (n ≤ℤ a))

pub record IsOnItsWay (from target position : Point) : Type 0 where
  pub x : IsBetween from.x target.x position.x
  pub y : IsBetween from.y target.y position.y

-- a position has 32 bits with their sign, the number of an item 16 bits, and the count of pictures 32
pub record PointInRange (p : Point) : Type 0 where
  pub x : FitsSigned w32 p.x
  pub y : FitsSigned w32 p.y

-- the locations of a mission's items
abbrev pub LocationsInRange : List Item → Type 0
LocationsInRange items = All (λ (item : Item). PointInRange (location_of item)) items

abbrev pub CourseInRange : Course → Type 0
CourseInRange Disarmed = Unit {0}
CourseInRange Resting = Unit {0}
CourseInRange (Flying number) = number < 65536
CourseInRange Returning = Unit {0}

pub record SimInRange (s : SimState) : Type 0 where
  pub home : PointInRange s.home
  pub position : PointInRange s.position
  pub course : CourseInRange s.course
  pub captures : s.captures < 2 ^ 32

pub record SimTickInRange (t : SimTick) : Type 0 where
  pub sim : SimInRange t.sim
  pub reached : IfSome t.reached (λ number. number < 65536)

-- several ticks over the same mission
abbrev pub ticks : ℕ → SimState → List Item → ℕ → SimState
ticks zero s items step = s
ticks (suc n) s items step = ticks n (sim_tick s items step).sim items step

-- two numbers are at most so far apart
abbrev pub AreWithin : ℕ → ℤ → ℤ → Type 0
AreWithin way a b = (a ≤ℤ (b +ℤ pos way)) × (b ≤ℤ (a +ℤ pos way))
