-- What contracts see of a plan.
use Rattle.std.specs.Prelude.{ℕ, ◌+◌, ◌-◌, List, length, vec_len, vec_capacity}
use Rattle.plan_items.specs.declared.items.Item.{Item}
use Rattle.plan_items.specs.declared.plans.Plan.{Plan}

-- the items, first to last
abbrev pub items_of : Plan → List Item
items_of plan = plan.items.items

-- how many items can be added with no more memory
abbrev pub spare_of : Plan → ℕ
spare_of plan = vec_capacity plan.items - vec_len plan.items

-- how many items the plan can have with no more memory
abbrev pub room_of : Plan → ℕ
room_of plan = spare_of plan + length (items_of plan)
