-- What contracts see of the plans that were kept.
use Rattle.std.specs.Prelude.{ℕ}
use Rattle.plan_image.specs.Plans.{Plans}

-- the persisted timestamp low bound, and the plans
pub record KeptPlans : Type 0 where
  pub low : ℕ
  pub plans : Plans
