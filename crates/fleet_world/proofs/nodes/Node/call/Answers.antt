use Rattle.std.proofs.Common.{ap}
use Rattle.node_reports.specs.Nodes.{Drone, Station}
use Rattle.fleet_world.specs.declared.calls.Call.{Call}
use Rattle.mav_nodes.specs.Nodes.{drone_beats, drone_ticks, drone_sims, drone_receives, station_beats, station_ticks, station_receives}
use Rattle.mav_nodes.specs.Restarts.{drone_restarts}
use Rattle.fleet_world.specs.NodeSteps.{node_called}
use Rattle.fleet_world.proofs.KeptNames.{station_receiving, station_beating, station_ticking}
use Rattle.fleet_world.proofs.NodeFaults.{drone_done, station_done, station_rests, if_err, drone_fails, station_fails}
use Rattle.fleet_world.proofs.nodes.Node.call.Goals.{in-Drone-Take, in-Drone-Noise, in-Drone-Heartbeat, in-Drone-Tick, in-Drone-Sim, in-Drone-Restart, in-Station-Take, in-Station-Noise, in-Station-Heartbeat, in-Station-Tick, in-Station-Sim, in-Station-Restart}
use Rattle.fleet_world.proofs.nodes.Node.call.Goals as goal

pub returns-clause-done : goal.returns-clause-done
returns-clause-done c =
    let clock = c.args.clock in
    let bytes = c.args.datagram.now in
    let called = node_called c.args.call.now bytes clock in
    elim c.match-self.branch [
      | in-Drone-Take w ↦
          rw w.result-is (drone_done called (drone_receives clock bytes) _ _ c.args.self.now _ w.receive.result (λ n. ap (λ (call : Call). node_called call bytes clock (Drone n)) w.in-Drone-Take.is-1) w.in-Drone-Take.is-0 w.self-is w.receive.ensures.done)
      | in-Drone-Noise w ↦
          rw w.result-is (drone_done called (drone_receives clock bytes) _ _ c.args.self.now _ w.receive-in-Drone-Noise.result (λ n. ap (λ (call : Call). node_called call bytes clock (Drone n)) w.in-Drone-Noise.is-1) w.in-Drone-Noise.is-0 w.self-is w.receive-in-Drone-Noise.ensures.done)
      | in-Drone-Heartbeat w ↦
          rw w.result-is (drone_done called (drone_beats clock) _ _ c.args.self.now _ w.heartbeat.result (λ n. ap (λ (call : Call). node_called call bytes clock (Drone n)) w.in-Drone-Heartbeat.is-1) w.in-Drone-Heartbeat.is-0 w.self-is w.heartbeat.ensures.done)
      | in-Drone-Tick w ↦
          rw w.result-is (drone_done called (drone_ticks clock) _ _ c.args.self.now _ w.tick.result (λ n. ap (λ (call : Call). node_called call bytes clock (Drone n)) w.in-Drone-Tick.is-1) w.in-Drone-Tick.is-0 w.self-is w.tick.ensures.done)
      | in-Drone-Sim w ↦
          rw w.result-is (drone_done called (drone_sims clock) _ _ c.args.self.now _ w.sim.result (λ n. ap (λ (call : Call). node_called call bytes clock (Drone n)) w.in-Drone-Sim.is-1) w.in-Drone-Sim.is-0 w.self-is w.sim.ensures.done)
      | in-Drone-Restart w ↦
          rw w.result-is (drone_done called (drone_restarts _ clock) _ _ c.args.self.now _ w.restart.result (λ n. ap (λ (call : Call). node_called call bytes clock (Drone n)) w.in-Drone-Restart.is-1) w.in-Drone-Restart.is-0 w.self-is w.restart.ensures.done)
      | in-Station-Take w ↦
          rw w.result-is (station_done called (station_receives clock bytes) _ _ _ c.args.self.now _ w.receive-in-Station-Take.result (λ n. ap (λ (call : Call). node_called call bytes clock (Station n)) w.in-Station-Take.is-1) (station_receiving clock bytes) w.in-Station-Take.is-0 w.self-is w.receive-in-Station-Take.ensures.done)
      | in-Station-Noise w ↦
          rw w.result-is (station_done called (station_receives clock bytes) _ _ _ c.args.self.now _ w.receive-in-Station-Noise.result (λ n. ap (λ (call : Call). node_called call bytes clock (Station n)) w.in-Station-Noise.is-1) (station_receiving clock bytes) w.in-Station-Noise.is-0 w.self-is w.receive-in-Station-Noise.ensures.done)
      | in-Station-Heartbeat w ↦
          rw w.result-is (station_done called (station_beats clock) _ _ _ c.args.self.now _ w.heartbeat-in-Station-Heartbeat.result (λ n. ap (λ (call : Call). node_called call bytes clock (Station n)) w.in-Station-Heartbeat.is-1) (station_beating clock) w.in-Station-Heartbeat.is-0 w.self-is w.heartbeat-in-Station-Heartbeat.ensures.done)
      | in-Station-Tick w ↦
          rw w.result-is (station_done called (station_ticks clock) _ _ _ c.args.self.now _ w.tick-in-Station-Tick.result (λ n. ap (λ (call : Call). node_called call bytes clock (Station n)) w.in-Station-Tick.is-1) (station_ticking clock) w.in-Station-Tick.is-0 w.self-is w.tick-in-Station-Tick.ensures.done)
      | in-Station-Sim w ↦
          rw w.result-is (station_rests called _ _ c.args.self.now _ _ (λ n. ap (λ (call : Call). node_called call bytes clock (Station n)) w.in-Station-Sim.is-1) w.in-Station-Sim.is-0 w.self-is w.new.ensures.items)
      | in-Station-Restart w ↦
          rw w.result-is (station_rests called _ _ c.args.self.now _ _ (λ n. ap (λ (call : Call). node_called call bytes clock (Station n)) w.in-Station-Restart.is-1) w.in-Station-Restart.is-0 w.self-is w.new-in-Station-Restart.ensures.items)
    ]

pub returns-clause-fault : goal.returns-clause-fault
returns-clause-fault c =
    let clock = c.args.clock in
    let bytes = c.args.datagram.now in
    let called = node_called c.args.call.now bytes clock in
    elim c.match-self.branch [
      | in-Drone-Take w ↦
          rw w.result-is (if_err w.receive.result (λ fault. drone_fails called (drone_receives clock bytes) _ c.args.self.now fault (λ n. ap (λ (call : Call). node_called call bytes clock (Drone n)) w.in-Drone-Take.is-1) w.in-Drone-Take.is-0) w.receive.ensures.fault)
      | in-Drone-Noise w ↦
          rw w.result-is (if_err w.receive-in-Drone-Noise.result (λ fault. drone_fails called (drone_receives clock bytes) _ c.args.self.now fault (λ n. ap (λ (call : Call). node_called call bytes clock (Drone n)) w.in-Drone-Noise.is-1) w.in-Drone-Noise.is-0) w.receive-in-Drone-Noise.ensures.fault)
      | in-Drone-Heartbeat w ↦
          rw w.result-is (if_err w.heartbeat.result (λ fault. drone_fails called (drone_beats clock) _ c.args.self.now fault (λ n. ap (λ (call : Call). node_called call bytes clock (Drone n)) w.in-Drone-Heartbeat.is-1) w.in-Drone-Heartbeat.is-0) w.heartbeat.ensures.fault)
      | in-Drone-Tick w ↦
          rw w.result-is (if_err w.tick.result (λ fault. drone_fails called (drone_ticks clock) _ c.args.self.now fault (λ n. ap (λ (call : Call). node_called call bytes clock (Drone n)) w.in-Drone-Tick.is-1) w.in-Drone-Tick.is-0) w.tick.ensures.fault)
      | in-Drone-Sim w ↦
          rw w.result-is (if_err w.sim.result (λ fault. drone_fails called (drone_sims clock) _ c.args.self.now fault (λ n. ap (λ (call : Call). node_called call bytes clock (Drone n)) w.in-Drone-Sim.is-1) w.in-Drone-Sim.is-0) w.sim.ensures.fault)
      | in-Drone-Restart w ↦
          rw w.result-is (if_err w.restart.result (λ fault. drone_fails called (drone_restarts _ clock) _ c.args.self.now fault (λ n. ap (λ (call : Call). node_called call bytes clock (Drone n)) w.in-Drone-Restart.is-1) w.in-Drone-Restart.is-0) w.restart.ensures.fault)
      | in-Station-Take w ↦
          rw w.result-is (if_err w.receive-in-Station-Take.result (λ fault. station_fails called (station_receives clock bytes) _ _ c.args.self.now fault (λ n. ap (λ (call : Call). node_called call bytes clock (Station n)) w.in-Station-Take.is-1) w.in-Station-Take.is-0) w.receive-in-Station-Take.ensures.fault)
      | in-Station-Noise w ↦
          rw w.result-is (if_err w.receive-in-Station-Noise.result (λ fault. station_fails called (station_receives clock bytes) _ _ c.args.self.now fault (λ n. ap (λ (call : Call). node_called call bytes clock (Station n)) w.in-Station-Noise.is-1) w.in-Station-Noise.is-0) w.receive-in-Station-Noise.ensures.fault)
      | in-Station-Heartbeat w ↦
          rw w.result-is (if_err w.heartbeat-in-Station-Heartbeat.result (λ fault. station_fails called (station_beats clock) _ _ c.args.self.now fault (λ n. ap (λ (call : Call). node_called call bytes clock (Station n)) w.in-Station-Heartbeat.is-1) w.in-Station-Heartbeat.is-0) w.heartbeat-in-Station-Heartbeat.ensures.fault)
      | in-Station-Tick w ↦
          rw w.result-is (if_err w.tick-in-Station-Tick.result (λ fault. station_fails called (station_ticks clock) _ _ c.args.self.now fault (λ n. ap (λ (call : Call). node_called call bytes clock (Station n)) w.in-Station-Tick.is-1) w.in-Station-Tick.is-0) w.tick-in-Station-Tick.ensures.fault)
      | in-Station-Sim w ↦ rw w.result-is tt
      | in-Station-Restart w ↦ rw w.result-is tt
    ]
