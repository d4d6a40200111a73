use Rattle.std.proofs.lemmas.Result.{err_from_is_err_and}
use Rattle.command_inputs.proofs.LineSteps.{fed_none, fed_next, fed_all, piece_halts}
use Rattle.command_inputs.proofs.feeding.feed.Goals as goal

pub loop-byte-init : goal.loop-byte-init
loop-byte-init g c = fed_none g.T.LineTaker.says c.args.taker.now c.args.held.now

pub loop-byte-preserved : goal.loop-byte-preserved
loop-byte-preserved g c =
    fed_next g.T.LineTaker.says c.args.piece.now c.loop-byte.byte-index c.args.taker.now c.loop-byte.taker c.take.new.taker c.args.held.now c.loop-byte.held c.take.new.held c.loop-byte-test.true c.loop-byte.invariant c.in_ok-take.ensures

pub returns-in_err-take : goal.returns-in_err-take
returns-in_err-take g c =
    let e = err_from_is_err_and c.from_residual.result c.from_residual.ensures.1 in
    rw (e.1, e.2)
    (piece_halts g.T.LineTaker.says c.args.piece.now c.loop-byte.byte-index c.args.taker.now c.loop-byte.taker c.args.held.now c.loop-byte.held c.in_err-take.field-0.0 c.loop-byte-test.true c.loop-byte.invariant c.in_err-take.ensures)

pub returns : goal.returns
returns g c = fed_all g.T.LineTaker.says c.args.piece.now c.loop-byte.byte-index c.args.taker.now c.loop-byte.taker c.args.held.now c.loop-byte.held c.loop-byte-test.false c.loop-byte.invariant
