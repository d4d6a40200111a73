use Rattle.std.proofs.Common.{◌≤◌, ◌<◌, ◌+◌, arith, length, refl}
use Rattle.std.proofs.lemmas.Result.{err_from_is_err_and}
use Rattle.command_inputs.proofs.LineSteps.{byte_fed, long_halts}
use Rattle.command_inputs.proofs.feeding.take.Goals as goal

pub returns-then-byte-eq10 : goal.returns-then-byte-eq10
returns-then-byte-eq10 g c = rw c.if-byte-eq10.true c.end_line.ensures

pub returns-then-len-eq-MOST_LINE_BYTES : goal.returns-then-len-eq-MOST_LINE_BYTES
returns-then-len-eq-MOST_LINE_BYTES g c =
    let held = c.args.held.now in
    let long : 4096 < length held.bytes.items + 1 = omega (arith, c.len.ensures, c.if-len-eq-MOST_LINE_BYTES.true) in
    rw c.too_long.ensures (long_halts g.T.LineTaker.says c.args.taker.now held c.args.byte c.if-byte-eq10.false long)

pub returns-in_err-push : goal.returns-in_err-push
returns-in_err-push g c =
    let e = err_from_is_err_and c.from_residual.result c.from_residual.ensures.1 in
    rw (e.1, e.2) (λ ended rest. tt)

pub returns : goal.returns
returns g c =
    let held = c.args.held.now in
    let fits : length held.bytes.items + 1 ≤ 4096 = omega (arith, c.len.ensures, c.if-len-eq-MOST_LINE_BYTES.false, held.short) in
    byte_fed g.T.LineTaker.says c.args.taker.now held _ c.args.byte c.if-byte-eq10.false fits held.few refl c.in_ok-push.ensures.items
