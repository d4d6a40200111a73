use Rattle.std.proofs.Common.{◌≡◌, List, None, sym, subst}
use Rattle.std.proofs.lemmas.Result.{err_from_is_err_and}
use Rattle.plan_upload.specs.Drone.{DroneState}
use Rattle.mav_nodes.specs.declared.faults.NodeFault.{NodeFault}
use Rattle.mav_nodes.specs.declared.news.News.{News}
use Rattle.mav_nodes.specs.Links.{IsLink, Outcome}
use Rattle.mav_nodes.specs.Stores.{HasFailed}
use Rattle.mav_nodes.specs.Services.{DroneServices, drone_flies}
use Rattle.mav_nodes.specs.Steps.{serves}
use Rattle.mav_nodes.specs.Cores.{IsServed}
use Rattle.mav_nodes.specs.Promises.{NodeDid, Fails}
use Rattle.mav_nodes.specs.Nodes.{DroneSide, IsDrone, drone_sims}
use Rattle.mav_nodes.specs.Images.{IsStored, StoreHolds, StoreHoldsFrom}
use Rattle.mav_nodes.proofs.StoreCalls.{from_raised}
use Rattle.mav_nodes.proofs.Ends.{fails_so}
use Rattle.mav_nodes.proofs.drone_node.DroneNode.sim.Goals as goal

pub returns-in_err-say_served-clause-fault : goal.returns-in_err-say_served-clause-fault
returns-in_err-say_served-clause-fault g c =
    let p = err_from_is_err_and c.from_residual-in_err-say_served.result c.from_residual-in_err-say_served.ensures.1 in
    let drone = c.self.inside.drone in
    let services = c.self.inside.services in
    let failed = HasFailed g.K.Keeper.faults g.K.Keeper.is_infallible c.args.keeper.now c.say_served.new.keeper in
    let does : DroneSide → Outcome DroneSide = λ node. serves c.args.clock node.link node.core (drone_flies drone services) in
    rw p.1 (fails_so p.0 (λ (node : DroneSide). IsLink node.link c.self.inside.link) does failed (λ (node : DroneSide). IsDrone node c.args.self.now) (λ (node : DroneSide). drone_sims c.args.clock node) failed (λ h. h)
    (λ node is.
    let inside = subst (IsDrone node) (sym c.self.view_is) is in (
      record { link = node.link; core = drone; services = services },
      inside.link,
      λ none.
          subst (λ (core : DroneState). serves c.args.clock node.link core (drone_flies core node.services) ≡ None) inside.core
          (subst (λ (v : DroneServices). serves c.args.clock node.link drone (drone_flies drone v) ≡ None) inside.services none),
    ))
    (subst (λ (f : NodeFault). Fails f (λ (node : DroneSide). IsLink node.link c.self.inside.link) does failed) (sym p.2) (c.in_err-say_served.ensures.fault (drone_flies drone services) c.in_ok-served.ensures)))

pub returns-clause-done : goal.returns-clause-done
returns-clause-done g c =
    λ node is.
    let inside = subst (IsDrone node) (sym c.self.view_is) is in
    let step = drone_flies node.core node.services in
    let one = subst (λ (core : DroneState). IsServed (drone_flies core c.self.inside.services) c.fly.new.self c.in_ok-served.served) inside.core c.in_ok-served.ensures in
    let served = subst (λ (v : DroneServices). IsServed (drone_flies node.core v) c.fly.new.self c.in_ok-served.served) inside.services one in
    let did = c.in_ok-say_served.ensures.done node step inside.link inside.core served in
    subst (λ (before : List News). NodeDid (serves c.args.clock node.link node.core step) c.say_served.new.link c.self.inside.drone c.fly.new.self before c.say_served.new.news.items) c.new-news.ensures.items did

pub returns-in_err-say_served-clause-given : goal.returns-in_err-say_served-clause-given
returns-in_err-say_served-clause-given g c =
    let p = err_from_is_err_and c.from_residual-in_err-say_served.result c.from_residual-in_err-say_served.ensures.1 in
    let inside = c.self.inside in
    let keeps = c.in_err-say_served.ensures.keeps in
    let now = g.K.Keeper.contents c.say_served.new.keeper in
    rw p.1 (λ held.
    subst (StoreHoldsFrom now) c.self.view_is
    (from_raised now (IsStored inside.drone) inside.link.low c.say_served.new.link.low keeps.raised (keeps.given (subst (StoreHolds (g.K.Keeper.contents c.args.keeper.now)) (sym c.self.view_is) held))))
