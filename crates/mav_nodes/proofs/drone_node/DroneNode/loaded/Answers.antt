use Rattle.std.proofs.Common.{Some, subst}
use Rattle.plan_image.proofs.Carrying.{no_bytes}
use Rattle.drone_sim.specs.declared.points.Point.{Point}
use Rattle.mav_nodes.specs.Nodes.{IsDrone, new_drone}
use Rattle.mav_nodes.specs.Restarts.{stored_drone}
use Rattle.mav_nodes.proofs.Cores.{if_ok, if_err}
use Rattle.mav_nodes.proofs.Starting.{home_again, started_anew, started_from, no_memory}
use Rattle.mav_nodes.proofs.drone_node.DroneNode.loaded.Goals as goal

pub returns-then-is_empty-clause-from : goal.returns-then-is_empty-clause-from
returns-then-is_empty-clause-from c =
    if_ok c.fresh.result (λ node is.
    started_anew c.args.bytes.now c.args.key c.args.sys (record { x = c.args.x; y = c.args.y }) node (no_bytes c.args.bytes.now c.if-is_empty.ensures)
    (subst (λ (home : Point). IsDrone (new_drone c.args.key c.args.sys home) node) (home_again c.args.x c.args.y c.ranges.x c.ranges.y) is)) c.fresh.ensures.fresh

pub returns-clause-from : goal.returns-clause-from
returns-clause-from c =
    let kept = c.in_ok-kept.kept in
    if_ok c.restored.result (λ node is.
    started_from c.args.bytes.now c.args.key c.args.sys (record { x = c.args.x; y = c.args.y }) kept.low kept.plans node c.in_ok-kept.ensures.image
    (subst (λ (home : Point). IsDrone (stored_drone c.args.key c.args.sys home kept.low kept.plans) node) (home_again c.args.x c.args.y c.ranges.x c.ranges.y) is)) c.restored.ensures.restored

pub returns-then-is_empty-clause-fault : goal.returns-then-is_empty-clause-fault
returns-then-is_empty-clause-fault c = if_err c.fresh.result (λ fault is. no_memory fault c.args.sys (Some c.args.bytes.now) _ is) c.fresh.ensures.fault

pub returns-clause-fault : goal.returns-clause-fault
returns-clause-fault c = if_err c.restored.result (λ fault is. no_memory fault c.args.sys (Some c.args.bytes.now) _ is) c.restored.ensures.fault
