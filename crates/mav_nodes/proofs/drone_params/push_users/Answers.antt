use Rattle.std.proofs.Common.{List, ap, ◌∙◌, arith, ◌+◌, ◌-◌, ◌++◌, ◌∷◌, []}
use Rattle.param_proto.specs.declared.params.Param.{Param}
use Rattle.mav_nodes.specs.Services.{user_params_from}
use Rattle.mav_nodes.proofs.ServiceSteps.{one_user}
use Rattle.mav_nodes.proofs.drone_params.push_users.Goals as goal

pub loop-number-preserved : goal.loop-number-preserved
loop-number-preserved c =
    let n = c.loop-number.number in
    record {
      within = omega (arith, c.loop-number-test.true);
      some = omega arith;
      pushed =
          ap (λ (items : List Param). items ++ user_params_from (37 - (n + 1)) (n + 1)) (c.in_ok-push.ensures.items ∙ ap (λ (p : Param). c.loop-number.params.items ++ p ∷ []) c.user_param.ensures)
          ∙ (one_user c.loop-number.params.items n (omega (arith, c.loop-number-test.true)) ∙ c.loop-number.invariant.pushed);
    }
