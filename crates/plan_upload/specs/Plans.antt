-- A drone's three plans, by the number of their kind.
use Rattle.std.specs.Prelude.{ℕ, ◌==◌, List, [], if◌then◌else◌}
use Rattle.plan_items.specs.declared.items.Item.{Item}
pub use Rattle.plan_image.specs.Plans.{Plans, no_plans, IsHoldable}

-- the plan of a kind: 0 mission, 1 fence, 2 rally
abbrev pub plan_at : Plans → ℕ → List Item
plan_at p kind = if kind == 0 then p.mission else if kind == 1 then p.fence else p.rally

-- the plans with that of one kind replaced
abbrev pub with_plan : Plans → ℕ → List Item → Plans
with_plan p kind items =
    if kind == 0 then record p { mission = items }
    else if kind == 1 then record p { fence = items }
    else record p { rally = items }

-- the number that means every kind in a clear (MAV_MISSION_TYPE_ALL)
abbrev pub every_kind : ℕ
every_kind = 255

-- the plans after a clear of one kind, or of all
abbrev pub without_plan : Plans → ℕ → Plans
without_plan p kind = if kind == every_kind then no_plans else with_plan p kind []
