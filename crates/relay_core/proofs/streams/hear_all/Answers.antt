use Rattle.std.proofs.Common.{◌∙◌, refl}
use Rattle.relay_core.specs.Moves.{Stops}
use Rattle.relay_core.specs.RelayRuns.{RelayKept}
use Rattle.relay_core.proofs.Fewer.{others_none, others_on}
use Rattle.relay_core.proofs.Results.{on_err}
use Rattle.relay_core.proofs.Stopping.{stops_on}
use Rattle.relay_core.proofs.Telling.{moves_none, moves_on}
use Rattle.relay_core.proofs.streams.hear_all.Goals as goal

pub loop-init : goal.loop-init
loop-init g c =
    let view : RelayKept = record { links = c.args.links.now; scanners = c.args.scanners.now; queues = c.args.queues.now } in
    (moves_none c.args.rules.now view g.W.Watcher.told c.args.watcher.now, refl, refl, others_none c.args.index c.args.scanners.now, refl)

pub loop-preserved : goal.loop-preserved
loop-preserved g c =
    let rules = c.args.rules.now in
    let first : RelayKept = record { links = c.args.links.now; scanners = c.args.scanners.now; queues = c.args.queues.now } in
    let here : RelayKept = record { links = c.loop.links; scanners = c.loop.scanners; queues = c.loop.queues } in
    let next : RelayKept = record { links = c.hear_next.new.links; scanners = c.hear_next.new.scanners; queues = c.hear_next.new.queues } in
    let inv = c.loop.invariant in
    let e = c.in_ok-hear_next.ensures in (
      moves_on rules first here next g.W.Watcher.told c.args.watcher.now c.loop.watcher c.hear_next.new.watcher inv.0 e.moves,
      e.links ∙ inv.1,
      e.given ∙ inv.2,
      others_on c.args.index c.args.scanners.now c.loop.scanners c.hear_next.new.scanners inv.3 e.others,
      e.count ∙ inv.4,
    )

pub returns-clause-moves : goal.returns-clause-moves
returns-clause-moves g c =
    let rules = c.args.rules.now in
    let first : RelayKept = record { links = c.args.links.now; scanners = c.args.scanners.now; queues = c.args.queues.now } in
    let here : RelayKept = record { links = c.loop.links; scanners = c.loop.scanners; queues = c.loop.queues } in
    let next : RelayKept = record { links = c.hear_next.new.links; scanners = c.hear_next.new.scanners; queues = c.hear_next.new.queues } in
    moves_on rules first here next g.W.Watcher.told c.args.watcher.now c.loop.watcher c.hear_next.new.watcher c.loop.invariant.0 c.in_ok-hear_next.ensures.moves

pub returns-in_err-hear_next-clause-stops : goal.returns-in_err-hear_next-clause-stops
returns-in_err-hear_next-clause-stops g c =
    let rules = c.args.rules.now in
    let first : RelayKept = record { links = c.args.links.now; scanners = c.args.scanners.now; queues = c.args.queues.now } in
    let here : RelayKept = record { links = c.loop.links; scanners = c.loop.scanners; queues = c.loop.queues } in
    let told = g.W.Watcher.told in
    let watcher = c.args.watcher.now in
    let telling = c.hear_next.new.watcher in
    on_err c.from_residual.result (Stops rules first told watcher telling)
    (stops_on rules first here told watcher c.loop.watcher telling c.loop.invariant.0 c.in_err-hear_next.ensures.stops)
