-- The values of each list of parameters that ends in a call of a world are those that the node knows after the call.
use Rattle.std.specs.Prelude.{ℕ, List}
use Rattle.node_reports.specs.Nodes.{Node, Drone, Station}
use Rattle.node_reports.proofs.ListedValues.{ListsKnown, receives_known, beats_known, ticks_known, flies_known, drone_beats_known}
use Rattle.mav_nodes.specs.Restarts.{restarted_drone}
use Rattle.fleet_world.specs.declared.calls.Call.{Call}
use Rattle.fleet_world.specs.declared.calls.Call.TheVariants.{Take, Noise, Heartbeat, Tick, Sim, Restart}
use Rattle.fleet_world.specs.NodeSteps.{node_called}

pub calls_known : (call : Call) (datagram : List ℕ) (clock : ℕ) (node : Node) → ListsKnown (node_called call datagram clock node)
calls_known (Take number) datagram clock node = receives_known clock datagram node
calls_known (Noise bytes) datagram clock node = receives_known clock datagram node
calls_known Heartbeat datagram clock node = beats_known clock node
calls_known Tick datagram clock node = ticks_known clock node
calls_known Sim datagram clock node = flies_known clock node
calls_known (Restart key) datagram clock (Drone n) = drone_beats_known clock (restarted_drone key n)
calls_known (Restart key) datagram clock (Station n) = tt
