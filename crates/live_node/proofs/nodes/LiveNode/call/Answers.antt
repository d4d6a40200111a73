use Rattle.std.proofs.Common.{ap}
use Rattle.node_reports.specs.Nodes.{Drone, Station}
use Rattle.mav_nodes.specs.Nodes.{drone_beats, drone_ticks, drone_sims, station_beats, station_ticks}
use Rattle.live_node.specs.declared.nodes.Due.{Due}
use Rattle.live_node.specs.Calls.{call_does}
use Rattle.live_node.specs.Progress.{due_call}
use Rattle.live_node.proofs.Hearing.{drone_done, station_done, station_rests}
use Rattle.live_node.proofs.GivenUp.{drone_left, station_left}
use Rattle.live_node.proofs.nodes.LiveNode.call.Goals.{in-Drone-Tick, in-Drone-Heartbeat, in-Drone-Sim, in-Station-Tick, in-Station-Heartbeat, in-Station-Sim}
use Rattle.live_node.proofs.nodes.LiveNode.call.Goals as goal

pub returns-clause-done : goal.returns-clause-done
returns-clause-done g c =
    let clock = c.args.clock in
    let called = call_does (due_call c.args.due clock) in
    elim c.match-self.branch [
      | in-Drone-Tick w ↦
          rw (w.result-is, w.self-is) (drone_done called (drone_ticks clock) _ _ c.args.self.now w.tick.result (λ n. ap (λ (due : Due). call_does (due_call due clock) (Drone n)) w.in-Drone-Tick.is-1) w.in-Drone-Tick.is-0 w.tick.ensures.done)
      | in-Drone-Heartbeat w ↦
          rw (w.result-is, w.self-is) (drone_done called (drone_beats clock) _ _ c.args.self.now w.heartbeat.result (λ n. ap (λ (due : Due). call_does (due_call due clock) (Drone n)) w.in-Drone-Heartbeat.is-1) w.in-Drone-Heartbeat.is-0 w.heartbeat.ensures.done)
      | in-Drone-Sim w ↦
          rw (w.result-is, w.self-is) (drone_done called (drone_sims clock) _ _ c.args.self.now w.sim.result (λ n. ap (λ (due : Due). call_does (due_call due clock) (Drone n)) w.in-Drone-Sim.is-1) w.in-Drone-Sim.is-0 w.sim.ensures.done)
      | in-Station-Tick w ↦
          rw (w.result-is, w.self-is) (station_done called (station_ticks clock) _ _ c.args.self.now w.tick-in-Station-Tick.result (λ n. ap (λ (due : Due). call_does (due_call due clock) (Station n)) w.in-Station-Tick.is-1) w.in-Station-Tick.is-0 w.tick-in-Station-Tick.ensures.done)
      | in-Station-Heartbeat w ↦
          rw (w.result-is, w.self-is) (station_done called (station_beats clock) _ _ c.args.self.now w.heartbeat-in-Station-Heartbeat.result (λ n. ap (λ (due : Due). call_does (due_call due clock) (Station n)) w.in-Station-Heartbeat.is-1) w.in-Station-Heartbeat.is-0 w.heartbeat-in-Station-Heartbeat.ensures.done)
      | in-Station-Sim w ↦
          rw (w.result-is, w.self-is) (station_rests called _ c.args.self.now _ (λ n. ap (λ (due : Due). call_does (due_call due clock) (Station n)) w.in-Station-Sim.is-1) w.in-Station-Sim.is-0 w.new.ensures.items)
    ]

pub returns-clause-given : goal.returns-clause-given
returns-clause-given g c =
    elim c.match-self.branch [
      | in-Drone-Tick w ↦
          rw (w.result-is, w.keeper-is) (drone_left _ _ _ c.args.self.now w.tick.result w.in-Drone-Tick.is-0 w.tick.ensures.given)
      | in-Drone-Heartbeat w ↦
          rw (w.result-is, w.keeper-is) (drone_left _ _ _ c.args.self.now w.heartbeat.result w.in-Drone-Heartbeat.is-0 w.heartbeat.ensures.given)
      | in-Drone-Sim w ↦
          rw (w.result-is, w.keeper-is) (drone_left _ _ _ c.args.self.now w.sim.result w.in-Drone-Sim.is-0 w.sim.ensures.given)
      | in-Station-Tick w ↦
          rw (w.result-is, w.keeper-is) (station_left _ _ _ c.args.self.now w.tick-in-Station-Tick.result w.in-Station-Tick.is-0)
      | in-Station-Heartbeat w ↦
          rw (w.result-is, w.keeper-is) (station_left _ _ _ c.args.self.now w.heartbeat-in-Station-Heartbeat.result w.in-Station-Heartbeat.is-0)
      | in-Station-Sim w ↦
          rw w.result-is tt
    ]
