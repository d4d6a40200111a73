-- Kinds in a clear.
use Rattle.std.specs.Prelude.{ℕ, Option, Some, None}
use Rattle.plan_items.specs.Kinds.{number_of}
use Rattle.plan_items.specs.declared.kinds.PlanKind.{PlanKind}
use Rattle.plan_upload.specs.Plans.{every_kind}

-- the number of a kind in a clear, in which None is all kinds
abbrev pub clear_number : Option PlanKind → ℕ
clear_number None = every_kind
clear_number (Some kind) = number_of kind
