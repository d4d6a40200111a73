use Rattle.std.proofs.Common.{◌-◌, ◌≡◌, ◌++◌, ◌≤◌}
use Rattle.mav_nodes.specs.Services.{user_params_from}
use Rattle.mav_nodes.proofs.drone_params.push_users.Given as goal

abbrev pub invariant-loop-number : goal.invariant-loop-number
invariant-loop-number l = record {
  within : l.number ≤ 37;
  some : 1 ≤ l.number;
  pushed : l.params.items ++ user_params_from (37 - l.number) l.number ≡ l.initial.params.items ++ user_params_from 36 1;
}

abbrev pub decreases-loop-number : goal.decreases-loop-number
decreases-loop-number l = 37 - l.number
