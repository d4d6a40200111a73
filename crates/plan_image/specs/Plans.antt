-- A drone's three plans.
use Rattle.std.specs.Prelude.{◌≡◌, ◌⊎◌, ℕ, List, []}
use Rattle.plan_items.specs.declared.items.Item.{Item}
use Rattle.plan_items.specs.Validation.{IsValid}

pub record Plans : Type 0 where
  pub mission : List Item
  pub fence : List Item
  pub rally : List Item

abbrev pub no_plans : Plans
no_plans = record { mission = []; fence = []; rally = [] }

-- a plan that a drone may hold
abbrev pub IsHoldable : ℕ → List Item → Type 0
IsHoldable kind items = (items ≡ []) ⊎ IsValid kind items

-- three such plans, by the numbers of their kinds
pub record AreHoldable (plans : Plans) : Type 0 where
  pub mission : IsHoldable 0 plans.mission
  pub fence : IsHoldable 1 plans.fence
  pub rally : IsHoldable 2 plans.rally
