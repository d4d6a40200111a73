use Rattle.std.proofs.Common.{refl, subst}
use Rattle.mav_names.specs.declared.names.Stream.{Stream}
use Rattle.mav_nodes.specs.Nodes.{new_station, IsStation}
use Rattle.node_reports.specs.Nodes.{Station}
use Rattle.fleet_world.specs.WorldState.{stream_of}
use Rattle.fleet_world.specs.WorldView.{Fleet}
use Rattle.fleet_world.proofs.FleetCalls.{fleet_added}
use Rattle.fleet_world.proofs.fleet.Fleet.add_station.Goals as goal

pub returns-clause-joins : goal.returns-clause-joins
returns-clause-joins c =
    fleet_added _ _ (λ (f : Fleet). Station (new_station f.key (stream_of c.args.name) 0)) _ _ c.self.view_is
    (subst (λ (me : Stream). IsStation (new_station c.self.inside.key me 0) c.in_ok-node.node) c.stream.ensures c.in_ok-node.ensures.new, refl) c.in_ok-push.ensures.items
