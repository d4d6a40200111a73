use Rattle.std.proofs.Common.{◌-◌, ◌∙◌, take, refl, sym, ap, subst, arith, length-take}
use Rattle.std.specs.Io.KnownBytes.{prepend_known}
use borrow.Rule.Slice.PartMut.{same_len_mid, take_put}
use Rattle.mav_ports.specs.Counts.{Rose}
use Rattle.mav_ports.proofs.Known.{prepend_known_nil}
use Rattle.run_status.proofs.RunsBeforeStatus.{took_none, took_more}
use Rattle.command_inputs.proofs.KeyRuns.{front_more, before_status_failed, before_status_idled, before_status_long, at_most}
use Rattle.command_inputs.proofs.key_inputs.read_all.Goals as goal

pub loop-count-init : goal.loop-count-init
loop-count-init g c = record {
  within = omega arith;
  size = omega arith;
  took = sym (prepend_known_nil (g.S.Source.left c.args.input.now));
  faults = refl;
  idles = omega arith;
}

pub loop-count-preserved : goal.loop-count-preserved
loop-count-preserved g c =
    let inv = c.loop-count.invariant in let count = c.loop-count.count in let more = c.in-Bytes.more in
    let buf = c.loop-count.buf in let piece = c.read_on.new.buf in let read = c.in-Bytes.ensures in
    let test = c.loop-count-test.true in
    record {
      within = omega (arith, read.within.1, test);
      size = same_len_mid count (67 - count) buf piece c.read_on.auto.buf ∙ inv.size;
      took =
          took_more (take count buf) (take more piece) (g.S.Source.left c.args.input.now) (g.S.Source.left c.loop-count.input) (g.S.Source.left c.read_on.new.source) inv.took read.bytes
          ∙ ap (λ bytes. prepend_known bytes (g.S.Source.left c.read_on.new.source)) (sym (front_more buf piece count (67 - count) more (omega (arith, inv.size, inv.within)) read.within.1));
      faults = read.sound (λ e. cc) ∙ inv.faults;
      idles = omega (arith, read.idles, inv.idles);
    }

pub returns-in-Idle-clause-halts : goal.returns-in-Idle-clause-halts
returns-in-Idle-clause-halts g c = λ read_as refusals sent.
    let inv = c.loop-count.invariant in let read = c.in-Idle.ensures in let front = take c.loop-count.count c.loop-count.buf in
    before_status_idled read_as _ (g.S.Source.left c.args.input.now) (g.S.Source.left c.read_on.new.source) sent front
    (took_none front (g.S.Source.left c.args.input.now) (g.S.Source.left c.loop-count.input) (g.S.Source.left c.read_on.new.source) inv.took read.bytes)
    (omega (arith, length-take c.loop-count.count c.loop-count.buf, c.loop-count-test.true)) (λ below. omega (arith, read.idled refl below, inv.idles))

pub returns-in-Idle-clause-within : goal.returns-in-Idle-clause-within
returns-in-Idle-clause-within g c =
    let inv = c.loop-count.invariant in let read = c.in-Idle.ensures in let front = take c.loop-count.count c.loop-count.buf in
    at_most (g.S.Source.left c.args.input.now) (g.S.Source.left c.read_on.new.source) front
    (took_none front (g.S.Source.left c.args.input.now) (g.S.Source.left c.loop-count.input) (g.S.Source.left c.read_on.new.source) inv.took read.bytes) 67
    (omega (arith, length-take c.loop-count.count c.loop-count.buf, c.loop-count-test.true))

pub returns-in-End-clause-taken : goal.returns-in-End-clause-taken
returns-in-End-clause-taken g c =
    let inv = c.loop-count.invariant in let read = c.in-End.ensures in let buf = c.loop-count.buf in let piece = c.read_on.new.buf in
    let count = c.loop-count.count in
    took_none (take count buf) (g.S.Source.left c.args.input.now) (g.S.Source.left c.loop-count.input) (g.S.Source.left c.read_on.new.source) inv.took read.bytes
    ∙ ap (λ bytes. prepend_known bytes (g.S.Source.left c.read_on.new.source)) (sym (take_put count (67 - count) buf piece (omega (arith, inv.size, inv.within))))

pub returns-in-End-clause-within : goal.returns-in-End-clause-within
returns-in-End-clause-within g c =
    let inv = c.loop-count.invariant in let read = c.in-End.ensures in let front = take c.loop-count.count c.loop-count.buf in
    at_most (g.S.Source.left c.args.input.now) (g.S.Source.left c.read_on.new.source) front
    (took_none front (g.S.Source.left c.args.input.now) (g.S.Source.left c.loop-count.input) (g.S.Source.left c.read_on.new.source) inv.took read.bytes) 67
    (omega (arith, length-take c.loop-count.count c.loop-count.buf, c.loop-count-test.true))

pub returns-in-Failed-clause-halts : goal.returns-in-Failed-clause-halts
returns-in-Failed-clause-halts g c = λ read_as refusals sent.
    let inv = c.loop-count.invariant in let read = c.in-Failed.ensures in let front = take c.loop-count.count c.loop-count.buf in
    before_status_failed read_as _ (g.S.Source.left c.args.input.now) (g.S.Source.left c.read_on.new.source) sent front
    (took_none front (g.S.Source.left c.args.input.now) (g.S.Source.left c.loop-count.input) (g.S.Source.left c.read_on.new.source) inv.took read.bytes)
    (omega (arith, length-take c.loop-count.count c.loop-count.buf, c.loop-count-test.true))
    (subst (λ n. Rose n (g.S.Source.faults c.read_on.new.source)) inv.faults (read.failed refl))

pub returns-in-Failed-clause-within : goal.returns-in-Failed-clause-within
returns-in-Failed-clause-within g c =
    let inv = c.loop-count.invariant in let read = c.in-Failed.ensures in let front = take c.loop-count.count c.loop-count.buf in
    at_most (g.S.Source.left c.args.input.now) (g.S.Source.left c.read_on.new.source) front
    (took_none front (g.S.Source.left c.args.input.now) (g.S.Source.left c.loop-count.input) (g.S.Source.left c.read_on.new.source) inv.took read.bytes) 67
    (omega (arith, length-take c.loop-count.count c.loop-count.buf, c.loop-count-test.true))

pub returns-clause-halts : goal.returns-clause-halts
returns-clause-halts g c = λ read_as refusals sent.
    let inv = c.loop-count.invariant in let front = take c.loop-count.count c.loop-count.buf in
    before_status_long read_as _ (g.S.Source.left c.args.input.now) (g.S.Source.left c.loop-count.input) sent front inv.took
    (omega (arith, length-take c.loop-count.count c.loop-count.buf, inv.size, c.loop-count-test.false))

pub returns-clause-within : goal.returns-clause-within
returns-clause-within g c =
    let inv = c.loop-count.invariant in
    at_most (g.S.Source.left c.args.input.now) (g.S.Source.left c.loop-count.input) (take c.loop-count.count c.loop-count.buf) inv.took 67
    (omega (arith, length-take c.loop-count.count c.loop-count.buf, inv.size))
