use Rattle.std.proofs.Common.{◌≡◌, drop}
use Rattle.plan_items.specs.Kinds.{number_of}
use Rattle.plan_items.specs.Validation.{first_fault}
use Rattle.plan_items.proofs.validation.check_items.Given as goal

-- what is left has the first fault of the whole
abbrev pub invariant-loop-item : goal.invariant-loop-item
invariant-loop-item l = first_fault (number_of l.kind) (drop l.item-index l.items) ≡ first_fault (number_of l.kind) l.items
