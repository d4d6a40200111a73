-- A simulated drone: what it does by commands, by a change of its mission, and in one tick (MAVLink guide, Mission
-- Protocol: Mission Items; MAVLink common messages, MAV_CMD). The guide leaves open how a simulated drone flies: that
-- it moves by whole numbers, a step in each tick, is this project's profile.
use Rattle.std.specs.Prelude.{ℕ, ◌+◌, ◌-◌, ◌^◌, ◌==◌, nat_lt, min, max, Bool, true, false, ◌&&◌, ◌||◌, if◌then◌else◌}
use Rattle.std.specs.Prelude.{List, length, slice_get, Option, Some, None}
use Rattle.plan_items.specs.declared.actions.Action.{Action}
use Rattle.plan_items.specs.declared.actions.Action.TheVariants.{Arm, Disarm, Start, Return}
use Rattle.plan_items.specs.declared.items.Item.{Item}
use Rattle.plan_items.specs.Validation.{goes_to_place}
use Rattle.drone_sim.specs.declared.points.Point.{Point}
use Rattle.drone_sim.specs.declared.courses.Course.{Course}
use Rattle.drone_sim.specs.declared.courses.Course.TheVariants.{Disarmed, Resting, Flying, Returning}
use Rattle.drone_sim.specs.declared.sim.SimNews.{SimNews}
use Rattle.drone_sim.specs.Moves.{moved, is_at}

-- where it starts and returns to, where it is, what it does, and how many pictures it took
pub record SimState : Type 0 where
  pub home : Point
  pub position : Point
  pub course : Course
  pub captures : ℕ

-- it is at its home, disarmed
abbrev pub new_sim : Point → SimState
new_sim home = record { home = home; position = home; course = Disarmed; captures = 0 }

abbrev pub is_armed : Course → Bool
is_armed Disarmed = false
is_armed Resting = true
is_armed (Flying item) = true
is_armed Returning = true

abbrev pub armed : SimState → Bool
armed s = is_armed s.course

-- ---- what it is told

-- a drone that is armed already goes on
abbrev pub arms : Course → Course
arms Disarmed = Resting
arms Resting = Resting
arms (Flying item) = Flying item
arms Returning = Returning

-- an armed drone leaves its course for another; a disarmed one stays disarmed
abbrev pub turns : Course → Course → Course
turns new old = if is_armed old then new else Disarmed

-- MAV_CMD_COMPONENT_ARM_DISARM, MAV_CMD_MISSION_START from the first item on, MAV_CMD_NAV_RETURN_TO_LAUNCH
abbrev pub course_by : Action → Course → Course
course_by Arm course = arms course
course_by Disarm course = Disarmed
course_by Start course = turns (Flying 0) course
course_by Return course = turns Returning course

abbrev pub acts : SimState → Action → SimState
acts s action = record s { course = course_by action s.course }

-- its mission was installed or cleared: a drone that flies it stops, and one that returns goes on
abbrev pub stopped : Course → Course
stopped Disarmed = Disarmed
stopped Resting = Resting
stopped (Flying item) = Resting
stopped Returning = Returning

abbrev pub changes : SimState → SimState
changes s = record s { course = stopped s.course }

-- ---- one tick

-- the drone after it, the item that was reached, and whether a picture was taken
pub record SimTick : Type 0 where
  pub sim : SimState
  pub reached : Option ℕ
  pub captured : Bool

abbrev pub news_of : SimTick → SimNews
news_of t = record { x = t.sim.position.x; y = t.sim.position.y; reached = t.reached; captured = t.captured }

abbrev pub stays : SimState → SimTick
stays s = record { sim = s; reached = None; captured = false }

-- a count of pictures stays at the maximum of its type
abbrev pub one_more : ℕ → ℕ
one_more captures = min (captures + 1) (2 ^ 32 - 1)

-- the location of an item, if it has one
abbrev pub location_of : Item → Point
location_of item = record { x = item.x; y = item.y }

-- where an item sends a drone: NAV_WAYPOINT, NAV_LAND and NAV_TAKEOFF to its location, NAV_RETURN_TO_LAUNCH to its
-- home, and any other nowhere
abbrev pub target_of : Point → Item → Option Point
target_of home item =
    if goes_to_place item.command then Some (location_of item)
    else if item.command == 20 then Some home
    else None

-- NAV_RETURN_TO_LAUNCH and NAV_LAND: the drone disarms there
abbrev pub ends_flight : ℕ → Bool
ends_flight command = (command == 20) || (command == 21)

-- there is an item of that number, which has 16 bits
abbrev pub has_item : List Item → ℕ → Bool
has_item items number = nat_lt number (length items) && nat_lt number 65536

-- the course once an item is reached: the next item, if there is one
abbrev pub beyond : List Item → ℕ → Item → Course
beyond items number item =
    if ends_flight item.command then Disarmed
    else if has_item items (number + 1) then Flying (number + 1)
    else Resting

-- it moves, and then is where it was sent, or not yet
abbrev pub flies_to : SimState → List Item → ℕ → ℕ → Item → Point → SimTick
flies_to s items step number item target =
    let position = moved step s.position target in
    if is_at position target then record {
      sim = record s { position = position; course = beyond items number item };
      reached = Some number;
      captured = false;
    }
    else stays (record s { position = position })

-- IMAGE_START_CAPTURE: one picture, at once
abbrev pub captures_at : SimState → List Item → ℕ → Item → SimTick
captures_at s items number item = record {
  sim = record s { course = beyond items number item; captures = one_more s.captures };
  reached = Some number;
  captured = true;
}

-- an item of the mission; one with another command changes nothing
abbrev pub does_item : SimState → List Item → ℕ → ℕ → Item → Option Point → SimTick
does_item s items step number item (Some target) = flies_to s items step number item target
does_item s items step number item None = if item.command == 2000 then captures_at s items number item else stays s

-- the mission, at an item that it may not have
abbrev pub flies : SimState → List Item → ℕ → ℕ → Option Item → SimTick
flies s items step number None = stays s
flies s items step number (Some item) = does_item s items step number item (target_of s.home item)

-- at its home it disarms
abbrev pub returns : SimState → ℕ → SimTick
returns s step =
    let position = moved step s.position s.home in
    if is_at position s.home then stays (record s { position = position; course = Disarmed })
    else stays (record s { position = position })

abbrev pub tick_on : SimState → List Item → ℕ → Course → SimTick
tick_on s items step Disarmed = stays s
tick_on s items step Resting = stays s
tick_on s items step (Flying number) = flies s items step number (slice_get items number)
tick_on s items step Returning = returns s step

-- one tick over a mission; a step of 0 acts as 1
abbrev pub sim_tick : SimState → List Item → ℕ → SimTick
sim_tick s items step = tick_on s items (max step 1) s.course
