use Rattle.std.proofs.Common.{sym, subst}
use Rattle.plan_upload.specs.Drone.{DroneState, drone_tick}
use Rattle.mav_nodes.specs.Images.{IsStored}
use Rattle.mav_nodes.proofs.Changes.{same_image, ticks_still}
use Rattle.mav_nodes.proofs.drone_core.DroneCore.wait.Goals as goal

pub returns-clause-stored : goal.returns-clause-stored
returns-clause-stored c = λ low bytes is.
    let d = c.args.self.now in
    let still = ticks_still d in
    subst (λ (e : DroneState). IsStored e low bytes) (sym c.tick.ensures.drone) (same_image d (drone_tick d).drone low bytes still.sys still.plans is)

pub returns-clause-same : goal.returns-clause-same
returns-clause-same c = λ low bytes is.
    let d = c.args.self.now in
    let still = ticks_still d in
    same_image (drone_tick d).drone d low bytes (sym still.sys) (sym still.plans) (subst (λ (e : DroneState). IsStored e low bytes) c.tick.ensures.drone is)
