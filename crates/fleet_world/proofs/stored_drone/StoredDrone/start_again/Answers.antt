use Rattle.std.proofs.Common.{rules, ℕ, w32, sym, ap, subst, ◌∙◌}
use Rattle.std.specs.Prelude.{FitsSigned}
use Rattle.std.specs.Int.{cast_signed, cast_unsigned}
use Rattle.std.proofs.lemmas.Int.{to_z-of_z}
use Rattle.plan_upload.specs.Drone.{DroneState}
use Rattle.drone_sim.specs.declared.points.Point.{Point}
use Rattle.mav_nodes.specs.Restarts.{restarted_drone}
use Rattle.mav_nodes.specs.Starts.{StartedFrom}
use Rattle.fleet_world.specs.StoredDrones.{IsStoredDrone}
use Rattle.fleet_world.proofs.Restarting.{starts_stored}
use Rattle.fleet_world.proofs.stored_drone.StoredDrone.start_again.Goals as goal

pub returns-clause-done : goal.returns-clause-done
returns-clause-done c = λ node is.
    let seen = subst (IsStoredDrone node) (sym c.self.view_is) is in
    let x_fits : FitsSigned w32 c.home-home.result.x = search rules in
    let y_fits : FitsSigned w32 c.home-home.result.y = search rules in
    let x = to_z-of_z w32 c.home-home.result.x x_fits ∙ ap (λ (p : Point). p.x) c.home-home.ensures in
    let y = to_z-of_z w32 c.home-home.result.y y_fits ∙ ap (λ (p : Point). p.y) c.home-home.ensures in
    subst (λ n. IsStoredDrone (restarted_drone c.args.key node) (record { node = n; store = c.start.new.keeper })) (sym c.replace.ensures.after)
    (starts_stored c.args.key (record { node = c.self.inside.node; store = c.self.inside.store }) c.in_ok-node.node c.start.new.keeper c.start.ensures.stays (c.start.ensures.serves.infallible seen.infallible) node seen
    (subst (λ (home : Point). StartedFrom c.args.key c.self.inside.node.drone.sys home c.self.inside.store.contents c.in_ok-node.node) (λ i. record { x = x i; y = y i })
    (subst (λ (sys : ℕ). StartedFrom c.args.key sys (record { x = cast_signed w32 (cast_unsigned w32 c.home-home.result.x); y = cast_signed w32 (cast_unsigned w32 c.home-home.result.y) }) c.self.inside.store.contents c.in_ok-node.node) (c.sys-sys.ensures ∙ ap (λ (d : DroneState). d.sys) c.plans.ensures) c.in_ok-node.ensures.from)))
