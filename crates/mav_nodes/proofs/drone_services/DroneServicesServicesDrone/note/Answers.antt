use Rattle.std.proofs.Common.{◌≡◌, subst}
use Rattle.mav_nodes.specs.Services.{DroneServices, drone_notes}
use Rattle.mav_nodes.proofs.Missions.{noted, not_noted}
use Rattle.mav_nodes.proofs.drone_services.DroneServicesServicesDrone.note.Goals as goal

pub returns-then-changes_mission : goal.returns-then-changes_mission
returns-then-changes_mission c =
    λ events said.
    let inside : DroneServices = record { sim = c.self.inside.sim; time = c.self.inside.time; executor = c.self.inside.executor; server = c.self.inside.server; files = c.self.inside.files } in
    subst (λ (v : DroneServices). record inside { sim = c.changed.new.self } ≡ drone_notes v events) c.self.view_is (noted inside c.args.plans.now events said c.changed.new.self c.if-changes_mission.ensures c.changed.ensures)

pub returns-else-changes_mission : goal.returns-else-changes_mission
returns-else-changes_mission c =
    λ events said. not_noted c.args.self.now c.args.plans.now events said c.if-changes_mission.ensures
