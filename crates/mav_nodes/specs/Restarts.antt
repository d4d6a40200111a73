-- Drones that start again, with the plans and the low bound of timestamps that they have stored.
use Rattle.std.specs.Prelude.{ℕ, List, Option, Some, None}
use Rattle.mav_names.specs.Addresses.{drone_stream}
use Rattle.mav_profile.specs.Messages.{extras_of}
use Rattle.mav_profile.specs.Profile.{profile_definitions}
use Rattle.plan_upload.specs.Plans.{Plans}
use Rattle.plan_upload.specs.Drone.{fresh_drone}
use Rattle.mav_nodes.specs.LowBounds.{stored_low}
use Rattle.mav_nodes.specs.Links.{Outcome, started_link}
use Rattle.drone_sim.specs.declared.points.Point.{Point}
use Rattle.mav_nodes.specs.Services.{new_drone_services}
use Rattle.mav_nodes.specs.Nodes.{DroneSide, new_drone, drone_beats}

-- a drone of that system that starts with what was stored of it, disarmed at its home
abbrev pub stored_drone : List ℕ → ℕ → Point → ℕ → Plans → DroneSide
stored_drone key sys home low plans = record {
  link = started_link key (drone_stream sys) (extras_of profile_definitions) (Some low);
  core = fresh_drone sys plans;
  services = new_drone_services sys home;
}

-- a drone that starts again with the low bound and the plans that are stored; with neither, as at first
abbrev pub started_again : List ℕ → ℕ → Point → Option ℕ → Plans → DroneSide
started_again key sys home None plans = new_drone key sys home
started_again key sys home (Some low) plans = stored_drone key sys home low plans

abbrev pub restarted_drone : List ℕ → DroneSide → DroneSide
restarted_drone key node = started_again key node.core.sys node.services.sim.home
    (stored_low node.link.history) node.core.plans

-- it starts again, and sends HEARTBEAT
abbrev pub drone_restarts : List ℕ → ℕ → DroneSide → Outcome DroneSide
drone_restarts key clock node = drone_beats clock (restarted_drone key node)
