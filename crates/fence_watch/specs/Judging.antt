-- What a fence says of the items of a mission, and of a flight.
use Rattle.std.specs.Prelude.{ℕ, ℤ, int_le, Bool, not, ◌&&◌, ◌||◌, if◌then◌else◌, List, map, filter, Option, Some}
use Rattle.std.specs.Prelude.{None}
use Rattle.std.specs.List.{list_any, range_with_len}
use Rattle.plan_items.specs.declared.items.Item.{Item}
use Rattle.plan_items.specs.declared.actions.Action.TheVariants.{Arm, Start}
use Rattle.plan_items.specs.Validation.{goes_to_place}
use Rattle.drone_sim.specs.declared.points.Point.{Point}
use Rattle.drone_sim.specs.Sim.{SimState, new_sim, acts, location_of}
use Rattle.drone_sim.specs.Laws.{ticks}
use Rattle.fence_watch.specs.declared.flights.Breach.{Breach}
use Rattle.fence_watch.specs.declared.groups.Test.{Test}
use Rattle.fence_watch.specs.declared.groups.Test.TheVariants.{IsInclusion, Includes, Excludes, Meets, ReachesDownTo}
use Rattle.fence_watch.specs.declared.groups.Test.TheVariants.{ReachesUpTo}
use Rattle.fence_watch.specs.Fences.{Polygon, includes, excludes, meets_border, has_inclusion, allows}

-- an inclusion with a corner at this x or a lesser one, and at this or a greater one
abbrev pub reaches_down_to : ℤ → Polygon → Bool
reaches_down_to x g = g.is_inclusion && list_any (λ (corner : Point). int_le corner.x x) g.corners

abbrev pub reaches_up_to : ℤ → Polygon → Bool
reaches_up_to x g = g.is_inclusion && list_any (λ (corner : Point). int_le x corner.x) g.corners

-- there are inclusions, and x is less than the least or greater than the greatest x of their corners
abbrev pub is_beyond : List Polygon → ℤ → Bool
is_beyond fence x =
    has_inclusion fence && (not (list_any (reaches_down_to x) fence) || not (list_any (reaches_up_to x) fence))

-- what the code asks of a polygon
abbrev pub passes : Test → Polygon → Bool
passes IsInclusion g = g.is_inclusion
passes (Includes p) g = includes p g
passes (Excludes p) g = excludes p g
passes (Meets leg) g = meets_border leg g.corners
passes (ReachesDownTo x) g = reaches_down_to x g
passes (ReachesUpTo x) g = reaches_up_to x g

-- the result code for the location of an item, if it has one and the fence doesn't allow it (MAVLink common messages,
-- MAV_MISSION_RESULT): INVALID_PARAM5_X where x alone shows it, and else INVALID_PARAM6_Y
abbrev pub judged : List Polygon → Item → Option ℕ
judged fence item =
    if not (goes_to_place item.command) then None
    else if allows fence (location_of item) then None
    else if is_beyond fence item.x then Some 10
    else Some 11

-- a drone at its home that was armed and has started its mission
abbrev pub started : Point → SimState
started home = acts (acts (new_sim home) Arm) Start

-- where it is after n ticks over the mission
abbrev pub place_after : List Item → Point → ℕ → ℕ → Point
place_after mission home step n = (ticks n (started home) mission step).position

-- each of so many ticks after which it is where the fence doesn't allow it, with the place
abbrev pub flown : List Polygon → List Item → Point → ℕ → ℕ → List Breach
flown fence mission home step count =
    filter (λ (b : Breach). not (allows fence b.at))
    (map (λ n. record { tick = n; at = place_after mission home step n }) (range_with_len 1 count))
