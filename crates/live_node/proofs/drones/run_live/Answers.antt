use Rattle.std.proofs.Common.{rules, [], ◌∷◌}
use Rattle.node_reports.specs.Nodes.{Drone}
use Rattle.live_node.specs.Calls.{Beats}
use Rattle.live_node.proofs.TurnEnds.{started}
use Rattle.live_node.proofs.Openings.{stopped_at_once, stopped_later, turns_taken, port_ended, drone_end}
use Rattle.live_node.proofs.drones.run_live.Goals as goal

pub returns-in-Err-clause-ran : goal.returns-in-Err-clause-ran
returns-in-Err-clause-ran g c =
    λ before start o.
    let s = c.in-Err.ensures.did before (Drone start) [] _ o.output in
    stopped_at_once _ before _ c.in-Err.end c.args.turns start s.at _ _ c.in-Err.ensures.ends.end c.call.ensures.unread s.timed s.stopped

pub returns-in-Ok-true-clause-ran : goal.returns-in-Ok-true-clause-ran
returns-in-Ok-true-clause-ran g c =
    let ran = rw c.in-Ok-true.field-0-test at c.in-Ok-true.ensures.did in
    λ before start o.
    let h = c.in-Ok.ensures.did before (Drone start) [] _ o.output in
    let b = started c.call.ensures.reader o c.call.ensures.unread (h.timed, tt) h.output in
    turns_taken _ before _ start h.at _ _ _ _ _ (ran before (Drone start) (Beats h.at ∷ []) _ b)

pub returns-in-Ok-false-clause-ran : goal.returns-in-Ok-false-clause-ran
returns-in-Ok-false-clause-ran g c =
    let ran = rw c.in-Ok-false.field-0-test at c.in-Ok-false.ensures.did in
    λ before start o.
    let h = c.in-Ok.ensures.did before (Drone start) [] _ o.output in
    let b = started c.call.ensures.reader o c.call.ensures.unread (h.timed, tt) h.output in
    let t = ran before (Drone start) (Beats h.at ∷ []) _ b in
    port_ended _ before _ start h.at c.args.turns t.turns _ _ _ _ t.number t.ended

pub returns-in-Err-run_turns-clause-ran : goal.returns-in-Err-run_turns-clause-ran
returns-in-Err-run_turns-clause-ran g c =
    λ before start o.
    let h = c.in-Ok.ensures.did before (Drone start) [] _ o.output in
    let b = started c.call.ensures.reader o c.call.ensures.unread (h.timed, tt) h.output in
    let t = c.in-Err-run_turns.ensures.did before (Drone start) (Beats h.at ∷ []) _ b in
    stopped_later _ before _ c.in-Err-run_turns.end c.args.turns start h.at t.turns _ _ c.in-Err-run_turns.ensures.ends.end t.number t.run

pub returns-in-Err-clause-ends : goal.returns-in-Err-clause-ends
returns-in-Err-clause-ends g c = record { end = drone_end c.args.turns c.in-Err.end c.in-Err.ensures.ends.end; faults = search rules; stays = search rules }

pub returns-in-Err-run_turns-clause-ends : goal.returns-in-Err-run_turns-clause-ends
returns-in-Err-run_turns-clause-ends g c = record { end = drone_end c.args.turns c.in-Err-run_turns.end c.in-Err-run_turns.ensures.ends.end; faults = search rules; stays = search rules }
