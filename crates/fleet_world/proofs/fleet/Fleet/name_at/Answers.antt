use Rattle.std.proofs.Common.{Some, ap, option_map}
use Rattle.mav_names.specs.declared.names.Name.{Name}
use Rattle.node_reports.specs.Nodes.{node_name}
use Rattle.fleet_world.proofs.NodeLists.{name_is}
use Rattle.fleet_world.proofs.FleetCalls.{value_found}
use Rattle.fleet_world.proofs.fleet.Fleet.name_at.Goals as goal

pub returns : goal.returns
returns c =
    value_found (option_map node_name) _ _ _ _ _ c.self.view_is c.requires c.index.ensures (λ node is. ap (λ (n : Name). Some n) (name_is _ _ c.named.ensures node is))
