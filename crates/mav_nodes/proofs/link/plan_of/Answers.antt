use Rattle.std.proofs.Common.{◌∙◌, sym}
use Rattle.mav_nodes.proofs.PlanPayloads.{plan_carried}
use Rattle.mav_nodes.proofs.link.plan_of.Goals as goal

pub returns : goal.returns
returns c =
    λ is of.
    c.to_plan.ensures.plan ∙ sym (plan_carried c.args.id c.args.payload.now c.args.message.now (λ i. (c.type_inv.payload i).fits) c.signed_fit.ensures is of)
