use Rattle.std.proofs.Common.{◌≡◌, ℕ, ◌<◌, ◌-◌, ◌++◌, get_or, take, replicate}
use Rattle.param_proto.proofs.types.clean.Given as goal

abbrev pub invariant-loop-at : goal.invariant-loop-at
invariant-loop-at l = (l.clean ≡ take l.at l.id ++ replicate (16 - l.at) 0) × ((k : ℕ) → k < l.at → get_or l.id k 0 ≡ 0 → ⊥)
