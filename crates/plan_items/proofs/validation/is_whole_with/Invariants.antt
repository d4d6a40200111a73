use Rattle.std.proofs.Common.{◌≡◌, [], ◌∷◌, ◌++◌, length}
use Rattle.plan_items.specs.Validation.{is_grouped}
use Rattle.plan_items.proofs.validation.is_whole_with.Given as goal

-- what is left decides as the whole did
abbrev pub invariant-loop-first : goal.invariant-loop-first
invariant-loop-first l = is_grouped 0 (l.rest ++ l.last ∷ []) ≡ is_grouped 0 (l.fn.items ++ l.last ∷ [])

abbrev pub decreases-loop-first : goal.decreases-loop-first
decreases-loop-first l = length l.rest
