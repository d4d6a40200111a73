-- The kinds of plans as the numbers that messages carry.
use Rattle.std.specs.Prelude.{ℕ, ◌==◌, if◌then◌else◌, Option, Some, None}
use Rattle.plan_items.specs.declared.kinds.PlanKind.{PlanKind}
use Rattle.plan_items.specs.declared.kinds.PlanKind.TheVariants.{Mission, Fence, Rally}

-- the number of a kind (MAVLink common messages, MAV_MISSION_TYPE)
abbrev pub number_of : PlanKind → ℕ
number_of Mission = 0
number_of Fence = 1
number_of Rally = 2

-- the most items of a plan of the kind with this number
abbrev pub limit_of : ℕ → ℕ
limit_of kind = if kind == 0 then 1000 else if kind == 1 then 200 else 50

-- the kind with this number, if there is one
abbrev pub kind_of : ℕ → Option PlanKind
kind_of number =
    if number == 0 then Some Mission else if number == 1 then Some Fence else if number == 2 then Some Rally else None
