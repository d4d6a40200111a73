use Rattle.std.proofs.Common.{◌≡◌, ℕ, ◌<◌, false, get_or}
use Rattle.field_layout.specs.Definition.{all_fields}
use Rattle.field_layout.specs.Target.{is_target}
use Rattle.field_layout.proofs.Walking.{nowhere}
use Rattle.field_layout.proofs.target.target_offset.Given as goal

abbrev pub invariant-loop-place : goal.invariant-loop-place
invariant-loop-place l = (k : ℕ) → k < l.place → is_target l.name (get_or (all_fields l.def) k nowhere.1) ≡ false
