use Rattle.std.proofs.Common.{◌∙◌, sym}
use Rattle.mav_nodes.proofs.PlanPayloads.{service_carried}
use Rattle.mav_nodes.proofs.link.service_of.Goals as goal

pub returns : goal.returns
returns c =
    λ is of.
    c.as_service.ensures ∙ sym (service_carried c.args._id c.args._payload.now c.args.message.now (λ i. (c.type_inv._payload i).fits) c.service_numbers_fit.ensures is of)
