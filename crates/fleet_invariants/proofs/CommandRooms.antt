-- Each drone has room for the last command of one more stream.
use Rattle.std.proofs.Common.{◌≡◌, ℕ, ◌+◌, ◌<◌, false, nat_lt, not, List, [], ◌∷◌, length, Option, Some, None, refl, arith}
use Rattle.command_proto.specs.declared.commands.LastCommand.{LastCommand}
use Rattle.command_proto.specs.Executor.{most_streams, last_in, has_no_room}
use Rattle.node_reports.specs.Nodes.{Node, Drone, Station}
use Rattle.fleet_world.specs.WorldState.{drones_in, stations_in}
use Rattle.fleet_invariants.specs.Laws.{EveryCommandHasRoom}
use Rattle.fleet_invariants.proofs.Rooms.{commands_few}

both_roles : (nodes : List Node) → length nodes ≡ drones_in nodes + stations_in nodes
both_roles [] = refl
both_roles (Drone n ∷ ns) = let e = both_roles ns in omega arith
both_roles (Station n ∷ ns) = let e = both_roles ns in omega arith

room : (n : ℕ) → n < 256 → not (nat_lt n most_streams) ≡ false
room n h = grind arith

has_room : (found : Option LastCommand) (ls : List LastCommand) → length ls < 256 → has_no_room found ls ≡ false
has_room None ls h = room (length ls) h
has_room (Some l) ls h = refl

pub commands_have_room : EveryCommandHasRoom
commands_have_room s g k d found from =
    let v = (g.cores k (Drone d) found).services in
    let few = commands_few d.link.history d.services.executor v.executor v.heard in
    let streams = (g.links k (Drone d) found).streams in
    let nodes = both_roles s.nodes in
    let drones = g.drones in
    let stations = g.stations in
    has_room (last_in d.services.executor.last from) d.services.executor.last (omega arith)
