use Rattle.std.proofs.Common.{[], ◌≤◌, ◌++◌, ◌∙◌, sym, refl, arith, take, subst, length}
use Rattle.std.proofs.lemmas.Result.{err_from_is_err_and}
use Rattle.mav_ports.specs.Counts.{Rose}
use Rattle.mav_ports.specs.Gets.{IsSpent}
use Rattle.mav_ports.proofs.Known.{prepend_known_nil}
use Rattle.run_status.specs.Runs.{port_outcome}
use Rattle.run_status.proofs.RunsBeforeStatus.{took_none, took_more}
use Rattle.command_inputs.proofs.LineSteps.{fed_none, fed_more, fed_halts}
use Rattle.command_inputs.proofs.LineEndings.{halts_piece, halts_fault, halts_idle, reads_end}
use Rattle.command_inputs.proofs.line_files.read_all.Goals as goal

pub loop-count-init : goal.loop-count-init
loop-count-init g c = record {
  reading = ([], sym (prepend_known_nil (g.S.Source.left c.args.input.now)), fed_none g.T.LineTaker.says c.args.taker.now c.args.held.now);
  faults = refl;
  idles = omega arith;
}

pub loop-count-preserved : goal.loop-count-preserved
loop-count-preserved g c =
    let inv = c.loop-count.invariant in
    let (taken, took, fed) = inv.reading in
    let bytes = take c.in-Bytes.count c.read_on.new.buf in
    record {
      reading = (
        taken ++ bytes,
        took_more taken bytes (g.S.Source.left c.args.input.now) (g.S.Source.left c.loop-count.input) (g.S.Source.left c.read_on.new.source) took c.in-Bytes.ensures.bytes,
        fed_more g.T.LineTaker.says taken bytes c.args.taker.now c.loop-count.taker c.feed.new.taker c.args.held.now c.loop-count.held c.feed.new.held fed c.in_ok-feed-in-Bytes.ensures,
      );
      faults = c.in-Bytes.ensures.sound (λ e. cc) ∙ inv.faults;
      idles = omega (arith, c.in-Bytes.ensures.idles, inv.idles);
    }

pub returns-in_err-feed-in-Bytes : goal.returns-in_err-feed-in-Bytes
returns-in_err-feed-in-Bytes g c =
    let (taken, took, fed) = c.loop-count.invariant.reading in
    let bytes = take c.in-Bytes.count c.read_on.new.buf in
    let run_end = c.in_err-feed-in-Bytes.field-0.0 in
    let e = err_from_is_err_and c.from_residual.result c.from_residual.ensures.1 in
    rw (e.1, e.2)
    (halts_piece g.T.LineTaker.says c.args.taker.now c.args.held.now c.requires.start
    (port_outcome (g.S.Source.has_ended c.read_on.new.source × IsSpent (g.S.Source.left c.read_on.new.source)) (g.S.Source.faults c.args.input.now) (g.S.Source.faults c.read_on.new.source) (g.S.Source.idles c.args.input.now) (g.S.Source.idles c.read_on.new.source) 0 0)
    (g.S.Source.left c.args.input.now) (g.S.Source.left c.read_on.new.source) (taken ++ bytes)
    (took_more taken bytes (g.S.Source.left c.args.input.now) (g.S.Source.left c.loop-count.input) (g.S.Source.left c.read_on.new.source) took c.in-Bytes.ensures.bytes)
    run_end
    (fed_halts g.T.LineTaker.says taken bytes c.args.taker.now c.loop-count.taker c.args.held.now c.loop-count.held run_end fed c.in_err-feed-in-Bytes.ensures))

pub returns-in-Idle : goal.returns-in-Idle
returns-in-Idle g c =
    let inv = c.loop-count.invariant in
    let (taken, took, fed) = inv.reading in
    let read = c.in-Idle.ensures in
    let held = c.loop-count.held in
    let short : length held.bytes.items ≤ 4096 = omega (arith, held.short) in
    halts_idle g.T.LineTaker.says c.args.taker.now c.args.held.now c.requires.start
    (port_outcome (g.S.Source.has_ended c.read_on.new.source × IsSpent (g.S.Source.left c.read_on.new.source)) (g.S.Source.faults c.args.input.now) (g.S.Source.faults c.read_on.new.source) (g.S.Source.idles c.args.input.now) (g.S.Source.idles c.read_on.new.source) 0 0)
    (g.S.Source.left c.args.input.now) (g.S.Source.left c.read_on.new.source) taken
    (took_none taken (g.S.Source.left c.args.input.now) (g.S.Source.left c.loop-count.input) (g.S.Source.left c.read_on.new.source) took read.bytes)
    c.loop-count.taker held fed short
    (λ below. omega (arith, read.idled refl below, inv.idles))

pub returns-in-End : goal.returns-in-End
returns-in-End g c =
    let (taken, took, fed) = c.loop-count.invariant.reading in
    let read = c.in-End.ensures in
    reads_end g.T.LineTaker.says c.args.taker.now c.args.held.now c.requires.start
    (port_outcome (g.S.Source.has_ended c.read_on.new.source × IsSpent (g.S.Source.left c.read_on.new.source)) (g.S.Source.faults c.args.input.now) (g.S.Source.faults c.read_on.new.source) (g.S.Source.idles c.args.input.now) (g.S.Source.idles c.read_on.new.source) 0 0)
    (g.S.Source.left c.args.input.now) (g.S.Source.left c.read_on.new.source) taken
    (took_none taken (g.S.Source.left c.args.input.now) (g.S.Source.left c.loop-count.input) (g.S.Source.left c.read_on.new.source) took read.bytes)
    c.loop-count.taker c.loop-count.held fed c.finish.result c.finish.new.taker (read.ended refl) c.finish.ensures

pub returns-in-Failed : goal.returns-in-Failed
returns-in-Failed g c =
    let inv = c.loop-count.invariant in
    let (taken, took, fed) = inv.reading in
    let read = c.in-Failed.ensures in
    let held = c.loop-count.held in
    let short : length held.bytes.items ≤ 4096 = omega (arith, held.short) in
    halts_fault g.T.LineTaker.says c.args.taker.now c.args.held.now c.requires.start
    (port_outcome (g.S.Source.has_ended c.read_on.new.source × IsSpent (g.S.Source.left c.read_on.new.source)) (g.S.Source.faults c.args.input.now) (g.S.Source.faults c.read_on.new.source) (g.S.Source.idles c.args.input.now) (g.S.Source.idles c.read_on.new.source) 0 0)
    (g.S.Source.left c.args.input.now) (g.S.Source.left c.read_on.new.source) taken
    (took_none taken (g.S.Source.left c.args.input.now) (g.S.Source.left c.loop-count.input) (g.S.Source.left c.read_on.new.source) took read.bytes)
    c.loop-count.taker held fed short
    (subst (λ n. Rose n (g.S.Source.faults c.read_on.new.source)) inv.faults (read.failed refl))
