use Rattle.std.proofs.Common.{[], ◌≤◌, ◌++◌, ◌∙◌, ap, sym, refl, arith, take, false, subst, length, Err}
use Rattle.std.proofs.lemmas.Result.{err_from_is_err_and}
use Rattle.mav_ports.specs.Counts.{Rose}
use Rattle.mav_ports.proofs.Known.{prepend_known_nil}
use Rattle.run_status.proofs.RunsBeforeStatus.{took_none, took_more}
use Rattle.fleet_command.proofs.Endings.{before_status_halt, before_status_end, before_status_fault, before_status_idle}
use Rattle.fleet_command.proofs.playing.play.Goals as goal

pub loop-count-init : goal.loop-count-init
loop-count-init g c = record {
  reading = λ key frames start. ([], sym (prepend_known_nil (g.S.Source.left c.args.main.now)), start);
  faults = refl;
  idles = omega arith;
  refusals = refl;
}

pub loop-count-preserved : goal.loop-count-preserved
loop-count-preserved g c = record {
  reading = λ key frames start.
      let (taken, took, r) = c.loop-count.invariant.reading key frames start in
      let bytes = take c.in-Bytes.count c.read_on.new.buf in (
        taken ++ bytes,
        took_more taken bytes (g.S.Source.left c.args.main.now) (g.S.Source.left c.loop-count.main) (g.S.Source.left c.read_on.new.source) took c.in-Bytes.ensures.bytes,
        c.in_ok-feed-in-Bytes.ensures.taken key frames taken (g.K.Sink.sent c.args.out.now) r,
      );
  faults = c.in-Bytes.ensures.sound (λ e. cc) ∙ c.loop-count.invariant.faults;
  idles = omega (arith, c.in-Bytes.ensures.idles, c.loop-count.invariant.idles);
  refusals = c.in_ok-feed-in-Bytes.ensures.sound (λ e. cc) ∙ c.loop-count.invariant.refusals;
}

pub returns-in_err-feed-in-Bytes-clause-before_status : goal.returns-in_err-feed-in-Bytes-clause-before_status
returns-in_err-feed-in-Bytes-clause-before_status g c =
    let inv = c.loop-count.invariant in
    let bytes = take c.in-Bytes.count c.read_on.new.buf in
    let e = err_from_is_err_and c.from_residual.result c.from_residual.ensures.1 in
    rw (e.1, e.2) (λ key frames start.
    before_status_halt key frames _ (g.S.Source.left c.args.main.now) (g.S.Source.left c.read_on.new.source) (g.K.Sink.sent c.args.out.now) (g.K.Sink.sent c.feed.new.out) false ((inv.reading key frames start).0 ++ bytes) c.in_err-feed-in-Bytes.field-0.0
    (took_more (inv.reading key frames start).0 bytes (g.S.Source.left c.args.main.now) (g.S.Source.left c.loop-count.main) (g.S.Source.left c.read_on.new.source) (inv.reading key frames start).1 c.in-Bytes.ensures.bytes)
    (λ never. absurd (cc never))
    (λ f. subst (λ n. Rose n (g.K.Sink.faults c.feed.new.out)) inv.refusals (c.in_err-feed-in-Bytes.ensures.rose (ap Err f)))
    (c.in_err-feed-in-Bytes.ensures.halted key frames (inv.reading key frames start).0 (g.K.Sink.sent c.args.out.now) (inv.reading key frames start).2 false))

pub returns-in_err-feed-in-Bytes-clause-sound : goal.returns-in_err-feed-in-Bytes-clause-sound
returns-in_err-feed-in-Bytes-clause-sound g c =
    let e = err_from_is_err_and c.from_residual.result c.from_residual.ensures.1 in
    rw (e.1, e.2) (λ other. c.in_err-feed-in-Bytes.ensures.sound other ∙ c.loop-count.invariant.refusals)

pub returns-in-Idle-clause-before_status : goal.returns-in-Idle-clause-before_status
returns-in-Idle-clause-before_status g c =
    let inv = c.loop-count.invariant in
    let read = c.in-Idle.ensures in
    let player = c.loop-count.player in
    let short : length player.line.items ≤ 4096 = omega (arith, player.short) in
    λ key frames start.
    before_status_idle key frames _ (g.S.Source.left c.args.main.now) (g.S.Source.left c.read_on.new.source) (g.K.Sink.sent c.args.out.now) (g.K.Sink.sent c.loop-count.out) (inv.reading key frames start).0 player.world player.number player.line.items
    (took_none (inv.reading key frames start).0 (g.S.Source.left c.args.main.now) (g.S.Source.left c.loop-count.main) (g.S.Source.left c.read_on.new.source) (inv.reading key frames start).1 read.bytes) (inv.reading key frames start).2 short
    (λ below. omega (arith, read.idled refl below, inv.idles))

pub returns-in-End-clause-before_status : goal.returns-in-End-clause-before_status
returns-in-End-clause-before_status g c =
    let inv = c.loop-count.invariant in
    let read = c.in-End.ensures in
    λ key frames start.
    before_status_end key frames _ (g.S.Source.left c.args.main.now) (g.S.Source.left c.read_on.new.source) (g.K.Sink.sent c.args.out.now) (g.K.Sink.sent c.finish.new.out) (inv.reading key frames start).0 c.finish.result
    (took_none (inv.reading key frames start).0 (g.S.Source.left c.args.main.now) (g.S.Source.left c.loop-count.main) (g.S.Source.left c.read_on.new.source) (inv.reading key frames start).1 read.bytes) (read.ended refl)
    (λ e. subst (λ n. Rose n (g.K.Sink.faults c.finish.new.out)) inv.refusals (c.finish.ensures.rose e))
    (c.finish.ensures.done key frames (inv.reading key frames start).0 (g.K.Sink.sent c.args.out.now) (inv.reading key frames start).2)
    (c.finish.ensures.halted key frames (inv.reading key frames start).0 (g.K.Sink.sent c.args.out.now) (inv.reading key frames start).2)

pub returns-in-Failed-clause-before_status : goal.returns-in-Failed-clause-before_status
returns-in-Failed-clause-before_status g c =
    let inv = c.loop-count.invariant in
    let read = c.in-Failed.ensures in
    let player = c.loop-count.player in
    let short : length player.line.items ≤ 4096 = omega (arith, player.short) in
    λ key frames start.
    before_status_fault key frames _ (g.S.Source.left c.args.main.now) (g.S.Source.left c.read_on.new.source) (g.K.Sink.sent c.args.out.now) (g.K.Sink.sent c.loop-count.out) (inv.reading key frames start).0 player.world player.number player.line.items
    (took_none (inv.reading key frames start).0 (g.S.Source.left c.args.main.now) (g.S.Source.left c.loop-count.main) (g.S.Source.left c.read_on.new.source) (inv.reading key frames start).1 read.bytes) (inv.reading key frames start).2 short
    (subst (λ n. Rose n (g.S.Source.faults c.read_on.new.source)) inv.faults (read.failed refl))
