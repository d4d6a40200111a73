use Rattle.std.proofs.Common.{subst}
use Rattle.std.specs.Prelude.{IfOk}
use Rattle.drone_sim.specs.declared.points.Point.{Point}
use Rattle.mav_nodes.specs.Starts.{StartedFrom}
use Rattle.mav_nodes.proofs.Cores.{if_ok, if_err}
use Rattle.mav_nodes.proofs.Starting.{home_again, is_started, known_start, known_fault}
use Rattle.mav_nodes.proofs.drone_node.DroneNode.start.Goals as goal

pub returns-clause-started : goal.returns-clause-started
returns-clause-started g c =
    let bytes = c.in_ok-bytes.bytes.items in
    if_ok c.loaded.result (λ node from.
    is_started bytes c.args.key c.args.sys (record { x = c.args.x; y = c.args.y }) node
    (subst (λ (home : Point). StartedFrom c.args.key c.args.sys home bytes node) (home_again c.args.x c.args.y c.ranges.x c.ranges.y) from)) (rw c.deref.ensures.value at c.loaded.ensures.from)

pub returns-clause-from : goal.returns-clause-from
returns-clause-from g c =
    let bytes = c.in_ok-bytes.bytes.items in
    known_start (g.K.Keeper.contents c.args.keeper.now) bytes c.loaded.result c.args.key c.args.sys (record { x = c.args.x; y = c.args.y }) c.in_ok-bytes.ensures.bytes
    (subst (λ (home : Point). IfOk c.loaded.result (StartedFrom c.args.key c.args.sys home bytes)) (home_again c.args.x c.args.y c.ranges.x c.ranges.y) (rw c.deref.ensures.value at c.loaded.ensures.from))

pub returns-clause-fault : goal.returns-clause-fault
returns-clause-fault g c =
    if_err c.loaded.result (λ fault fails.
    known_fault (g.K.Keeper.contents c.args.keeper.now) c.in_ok-bytes.bytes.items fault c.args.sys _ c.in_ok-bytes.ensures.bytes fails) (rw c.deref.ensures.value at c.loaded.ensures.fault)
