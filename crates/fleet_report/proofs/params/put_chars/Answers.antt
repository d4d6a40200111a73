use Rattle.std.proofs.Common.{arith}
use Rattle.fleet_report.proofs.ParamLines.{char_added, chars_before_zero, chars_ended}
use Rattle.fleet_report.proofs.params.put_chars.Goals as goal

pub returns-then-byte-eq0 : goal.returns-then-byte-eq0
returns-then-byte-eq0 c =
    chars_before_zero c.args.id.now _ _ c.loop-byte.byte-index (omega (arith, c.loop-byte-test.true, c.told-id)) c.if-byte-eq0.true c.loop-byte.invariant

pub loop-byte-preserved : goal.loop-byte-preserved
loop-byte-preserved c =
    char_added c.args.id.now _ _ _ c.loop-byte.byte-index (omega (arith, c.loop-byte-test.true, c.told-id)) c.if-byte-eq0.false c.loop-byte.invariant
    c.in_ok-put_char.ensures

pub returns : goal.returns
returns c = chars_ended c.args.id.now _ _ c.loop-byte.byte-index (omega (arith, c.loop-byte-test.false, c.told-id)) c.loop-byte.invariant
