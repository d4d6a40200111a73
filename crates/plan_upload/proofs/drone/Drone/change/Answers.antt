use Rattle.std.proofs.Common.{sym, ap, ◌∙◌, subst}
use Rattle.plan_upload.specs.Drone.{DroneState}
use Rattle.plan_upload.specs.Keeping.{HasKind}
use Rattle.plan_upload.proofs.Unkept.{same_step}
use Rattle.plan_upload.proofs.drone.Drone.change.Goals as goal

pub returns-clause-same : goal.returns-clause-same
returns-clause-same c =
    λ e. same_step c.args.self.now c.args.from c.args.msg.now (subst HasKind (ap (λ (d : DroneState). d.upload) c.self.view_is) c.see_kind.ensures) (sym c.change_by.ensures ∙ e)
