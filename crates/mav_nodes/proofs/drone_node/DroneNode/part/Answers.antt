use Rattle.std.proofs.Common.{◌++◌, sym, ap, subst}
use Rattle.mav_nodes.specs.Steps.{hears_keeping, IsNode}
use Rattle.mav_nodes.specs.Stores.{AllKept, HasFailed}
use Rattle.mav_nodes.specs.Images.{StoreHolds}
use Rattle.mav_nodes.specs.Nodes.{DroneSide, DroneView, IsDrone, drone_rules_keeping}
use Rattle.mav_nodes.specs.Promises.{SpentKeeping}
use Rattle.mav_nodes.specs.Streams.{HasRead, GrowsBy}
use Rattle.mav_nodes.proofs.Cores.{if_ok, if_err}
use Rattle.mav_nodes.proofs.Parts.{part_fails_so}
use Rattle.mav_nodes.proofs.drone_node.DroneNode.part.Goals as goal

pub returns-clause-done : goal.returns-clause-done
returns-clause-done g c =
    if_ok c.part.result (λ part did node taken given is read.
    did node taken given (subst (IsDrone node) (sym c.self.view_is) is) (subst (λ (v : DroneView). HasRead taken given v.link) (sym c.self.view_is) read)) c.part.ensures.done

pub returns-clause-fault : goal.returns-clause-fault
returns-clause-fault g c =
    if_err c.part.result (λ fault h.
    let failed = HasFailed g.K.Keeper.faults g.K.Keeper.is_infallible c.args.keeper.now c.part.new.keeper in
    part_fails_so fault (λ (node : DroneSide). IsNode node c.self.inside.link c.self.inside.drone c.self.inside.services) c.self.inside.link
    (λ packets (node : DroneSide). SpentKeeping (AllKept failed) (λ keeps. hears_keeping drone_rules_keeping c.args.clock keeps packets node)) (λ (node : DroneSide). IsDrone node c.args.self.now) c.args.self.now.link
    (λ packets (node : DroneSide). SpentKeeping (AllKept failed) (λ keeps. hears_keeping drone_rules_keeping c.args.clock keeps packets node)) c.args.piece.now failed failed (λ f. f) (ap (λ (v : DroneView). v.link) c.self.view_is)
    (λ node is. (node, subst (IsDrone node) (sym c.self.view_is) is, λ packets spent. spent)) h) c.part.ensures.fault

pub returns-clause-given : goal.returns-clause-given
returns-clause-given g c =
    if_err c.part.result (λ fault left held node taken given events is read grows.
    left (subst (StoreHolds (g.K.Keeper.contents c.args.keeper.now)) (sym c.self.view_is) held) node taken given events (subst (IsDrone node) (sym c.self.view_is) is) (subst (λ (v : DroneView). HasRead taken given v.link) (sym c.self.view_is) read) (subst (λ (v : DroneView). GrowsBy v.link.endpoint.extras (taken ++ c.args.piece.now) given events) (sym c.self.view_is) grows)) c.part.ensures.given
