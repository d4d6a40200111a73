use Rattle.std.proofs.Common.{rules, true, OnOk, IfErr, ◌≡◌, ◌≤◌, ◌++◌, ◌∙◌, [], ℕ, List, false, ap, sym, refl, arith, take, length, subst, Err, length-take}
use Rattle.std.proofs.lemmas.Result.{err_from_is_err_and}
use Rattle.mav_ports.specs.Counts.{Rose}
use Rattle.mav_ports.specs.Puts.{SentPrefix}
use Rattle.mav_ports.proofs.Known.{prepend_known_nil}
use Rattle.run_status.proofs.RunsBeforeStatus.{took_none, took_more}
use Rattle.std.specs.Io.KnownBytes.{append_known}
use Rattle.decode_command.specs.Tellings.{Telling}
use Rattle.decode_command.proofs.Ends.{untold_fault, untold_idle, untold_limit, untold_within, untold_past, untold_end, read_length, limited}
use Rattle.decode_command.proofs.Telling.{all_sent, start_sent}
use Rattle.decode_command.proofs.running.run_pieces.Goals as goal

pub loop-count-init : goal.loop-count-init
loop-count-init g c = record {
  same = refl;
  load = omega (arith, c.requires.load);
  room = c.requires.room;
  empty = c.requires.empty;
  buf = c.requires.buf;
  told = (
    [],
    sym (prepend_known_nil (g.S.Source.left c.args.main.now)),
    refl,
    start_sent (g.T.Teller.telling c.args.teller.now) (g.T.Teller.has_told c.args.teller.now) c.args.text.now.items (g.K.Sink.sent c.args.out.now) c.requires.new c.requires.nothing c.requires.empty,
  );
  faults = refl;
  idles = omega arith;
  refusals = refl;
}

pub take-requires-clause-room : goal.take-requires-clause-room
take-requires-clause-room g c = c.loop-count.invariant.room

pub take-requires-clause-load : goal.take-requires-clause-load
take-requires-clause-load g c = omega (arith, c.loop-count.invariant.load, length-take c.loop-count.left c.read_on.new.buf)

pub returns-in_err-take-in-Bytes-clause-untold : goal.returns-in_err-take-in-Bytes-clause-untold
returns-in_err-take-in-Bytes-clause-untold g c =
    let inv = c.loop-count.invariant in let buf = c.read_on.new.buf in let count = c.in-Bytes.count in let left = c.loop-count.left in
    let read = c.in-Bytes.ensures in let test = c.if-count-left.true in let t = g.T.Teller.telling c.args.teller.now in
    let halt = c.in_err-take-in-Bytes.field-0.0 in let err = c.in_err-take-in-Bytes.ensures in
    let sb = g.K.Sink.sent c.args.out.now in let sa = g.K.Sink.sent c.take.new.out in
    let e = err_from_is_err_and c.from_residual.result c.from_residual.ensures.1 in
    let (taken, took, len, d) = inv.told in
    let more = read_length taken buf count read.within.1 in
    let below : left ≤ count = omega (arith, test) in
    rw (e.1, e.2) (untold_past t _ (g.S.Source.left c.args.main.now) (g.S.Source.left c.read_on.new.source) sb sa (taken ++ take count buf) halt
    (took_more taken (take count buf) (g.S.Source.left c.args.main.now) (g.S.Source.left c.loop-count.main) (g.S.Source.left c.read_on.new.source) took read.bytes)
    (omega (arith, more, len, test)) err.halts.error
    (λ f. subst (λ n. Rose n (g.K.Sink.faults c.take.new.out)) inv.refusals (err.halts.rose (ap Err f)))
    (subst (λ (z : Telling × List ℕ). SentPrefix sb sa (z.0.told false z.1)) (λ i. (inv.same i, sym (limited taken buf count left below len) i)) (err.halted taken sb d.tells)))

pub returns-then-count-left-clause-untold : goal.returns-then-count-left-clause-untold
returns-then-count-left-clause-untold g c =
    let inv = c.loop-count.invariant in let buf = c.read_on.new.buf in let count = c.in-Bytes.count in let left = c.loop-count.left in
    let read = c.in-Bytes.ensures in let test = c.if-count-left.true in let t = g.T.Teller.telling c.args.teller.now in
    let after = c.in_ok-take-in-Bytes.ensures in
    let sb = g.K.Sink.sent c.args.out.now in let sa = g.K.Sink.sent c.take.new.out in
    let (taken, took, len, d) = inv.told in
    let more = read_length taken buf count read.within.1 in
    let below : left ≤ count = omega (arith, test) in
    let all = after.told taken sb d.tells in
    untold_limit t _ (g.S.Source.left c.args.main.now) (g.S.Source.left c.read_on.new.source) sb sa (taken ++ take count buf)
    (took_more taken (take count buf) (g.S.Source.left c.args.main.now) (g.S.Source.left c.loop-count.main) (g.S.Source.left c.read_on.new.source) took read.bytes)
    (omega (arith, more, len, test))
    (all_sent (g.T.Teller.telling c.loop-count.teller) (g.T.Teller.has_told c.take.new.teller) false (taken ++ take left buf) c.take.new.text.items sb sa all after.empty
    ∙ (λ i. append_known sb ((inv.same i).told false (sym (limited taken buf count left below len) i))))

pub returns-in_err-take-in-Bytes-2-clause-untold : goal.returns-in_err-take-in-Bytes-2-clause-untold
returns-in_err-take-in-Bytes-2-clause-untold g c =
    let inv = c.loop-count.invariant in let buf = c.read_on.new.buf in let count = c.in-Bytes.count in
    let read = c.in-Bytes.ensures in let test = c.if-count-left.false in let t = g.T.Teller.telling c.args.teller.now in
    let halt = c.in_err-take-in-Bytes-2.field-0.0 in let err = c.in_err-take-in-Bytes-2.ensures in
    let sb = g.K.Sink.sent c.args.out.now in let sa = g.K.Sink.sent c.take-in-Bytes.new.out in
    let e = err_from_is_err_and c.from_residual-in_err-take-in-Bytes-2.result c.from_residual-in_err-take-in-Bytes-2.ensures.1 in
    let (taken, took, len, d) = inv.told in
    let more = read_length taken buf count read.within.1 in
    rw (e.1, e.2) (untold_within t _ (g.S.Source.left c.args.main.now) (g.S.Source.left c.read_on.new.source) sb sa (taken ++ take count buf) halt
    (took_more taken (take count buf) (g.S.Source.left c.args.main.now) (g.S.Source.left c.loop-count.main) (g.S.Source.left c.read_on.new.source) took read.bytes)
    (omega (arith, more, len, test)) err.halts.error
    (λ f. subst (λ n. Rose n (g.K.Sink.faults c.take-in-Bytes.new.out)) inv.refusals (err.halts.rose (ap Err f)))
    (subst (λ (z : Telling). SentPrefix sb sa (z.told false (taken ++ take count buf))) inv.same (err.halted taken sb d.tells)))

pub take-requires-in-Bytes-clause-room : goal.take-requires-in-Bytes-clause-room
take-requires-in-Bytes-clause-room g c = c.loop-count.invariant.room

pub take-requires-in-Bytes-clause-load : goal.take-requires-in-Bytes-clause-load
take-requires-in-Bytes-clause-load g c = omega (arith, c.loop-count.invariant.load, c.if-count-left.false, length-take c.in-Bytes.count c.read_on.new.buf)

pub loop-count-preserved : goal.loop-count-preserved
loop-count-preserved g c =
    let inv = c.loop-count.invariant in let buf = c.read_on.new.buf in let count = c.in-Bytes.count in
    let read = c.in-Bytes.ensures in let after = c.in_ok-take-in-Bytes-2.ensures in let test = c.if-count-left.false in
    let piece : length (take count buf) ≡ count = omega (arith, length-take count buf, read.within) in
    let (taken, took, len, d) = inv.told in
    let more = read_length taken buf count read.within.1 in
    let sb = g.K.Sink.sent c.args.out.now in
    let all = after.told taken sb d.tells in
    record {
      same = after.same ∙ inv.same;
      load = omega (arith, after.load, inv.load, test, piece);
      room = after.room;
      empty = after.empty;
      buf = search rules;
      told = (
        taken ++ take count buf,
        took_more taken (take count buf) (g.S.Source.left c.args.main.now) (g.S.Source.left c.loop-count.main) (g.S.Source.left c.read_on.new.source) took read.bytes,
        omega (arith, more, len, test),
        record { tells = all.tells; all = all.all ∙ ap (λ (z : Telling). z.told false (taken ++ take count buf)) inv.same },
      );
      faults = read.sound (λ e. cc) ∙ inv.faults;
      idles = omega (arith, read.idles, inv.idles);
      refusals = after.halts.sound (λ e. cc) ∙ inv.refusals;
    }

pub returns-in-Idle-clause-untold : goal.returns-in-Idle-clause-untold
returns-in-Idle-clause-untold g c =
    let inv = c.loop-count.invariant in let read = c.in-Idle.ensures in let t = g.T.Teller.telling c.args.teller.now in
    let (taken, took, len, d) = inv.told in
    let sb = g.K.Sink.sent c.args.out.now in let sa = g.K.Sink.sent c.loop-count.out in
    untold_idle t _ (g.S.Source.left c.args.main.now) (g.S.Source.left c.read_on.new.source) sb sa taken
    (took_none taken (g.S.Source.left c.args.main.now) (g.S.Source.left c.loop-count.main) (g.S.Source.left c.read_on.new.source) took read.bytes)
    (omega (arith, len)) (all_sent t (g.T.Teller.has_told c.loop-count.teller) false taken c.loop-count.text.items sb sa d inv.empty)
    (λ below. omega (arith, read.idled refl below, inv.idles))

pub returns-in-End-clause-untold : goal.returns-in-End-clause-untold
returns-in-End-clause-untold g c =
    let inv = c.loop-count.invariant in let read = c.in-End.ensures in let done = c.finish.ensures in
    let (taken, took, len, d) = inv.told in
    let sb = g.K.Sink.sent c.args.out.now in let sa = g.K.Sink.sent c.finish.new.out in
    untold_end (g.T.Teller.telling c.args.teller.now) _ (g.S.Source.left c.args.main.now) (g.S.Source.left c.read_on.new.source) sb sa taken c.finish.result
    (took_none taken (g.S.Source.left c.args.main.now) (g.S.Source.left c.loop-count.main) (g.S.Source.left c.read_on.new.source) took read.bytes)
    (read.ended refl) (omega (arith, len))
    (subst (λ (z : Telling). OnOk c.finish.result (sa ≡ append_known sb (z.told true taken ++ z.closing taken))) inv.same (done.done taken sb d.tells))
    (subst (λ (z : Telling). IfErr c.finish.result (λ halt. SentPrefix sb sa (z.told true taken ++ z.closing taken))) inv.same (done.halted taken sb d.tells)) done.halts.error
    (λ e. subst (λ n. Rose n (g.K.Sink.faults c.finish.new.out)) inv.refusals (done.halts.rose e))

pub returns-in-Failed-clause-untold : goal.returns-in-Failed-clause-untold
returns-in-Failed-clause-untold g c =
    let inv = c.loop-count.invariant in let read = c.in-Failed.ensures in let t = g.T.Teller.telling c.args.teller.now in
    let (taken, took, len, d) = inv.told in
    let sb = g.K.Sink.sent c.args.out.now in let sa = g.K.Sink.sent c.loop-count.out in
    untold_fault t _ (g.S.Source.left c.args.main.now) (g.S.Source.left c.read_on.new.source) sb sa taken
    (took_none taken (g.S.Source.left c.args.main.now) (g.S.Source.left c.loop-count.main) (g.S.Source.left c.read_on.new.source) took read.bytes)
    (omega (arith, len)) (all_sent t (g.T.Teller.has_told c.loop-count.teller) false taken c.loop-count.text.items sb sa d inv.empty)
    (subst (λ n. Rose n (g.S.Source.faults c.read_on.new.source)) inv.faults (read.failed refl))

pub finish-requires : goal.finish-requires
finish-requires g c = omega (arith, c.loop-count.invariant.load)

pub returns-in_err-take-in-Bytes-clause-sound : goal.returns-in_err-take-in-Bytes-clause-sound
returns-in_err-take-in-Bytes-clause-sound g c =
    let e = err_from_is_err_and c.from_residual.result c.from_residual.ensures.1 in
    rw (e.1, e.2) (λ other. c.in_err-take-in-Bytes.ensures.halts.sound other ∙ c.loop-count.invariant.refusals)

pub returns-in_err-take-in-Bytes-2-clause-sound : goal.returns-in_err-take-in-Bytes-2-clause-sound
returns-in_err-take-in-Bytes-2-clause-sound g c =
    let e = err_from_is_err_and c.from_residual-in_err-take-in-Bytes-2.result c.from_residual-in_err-take-in-Bytes-2.ensures.1 in
    rw (e.1, e.2) (λ other. c.in_err-take-in-Bytes-2.ensures.halts.sound other ∙ c.loop-count.invariant.refusals)

pub returns-then-count-left-clause-sound : goal.returns-then-count-left-clause-sound
returns-then-count-left-clause-sound g c = λ other. c.in_ok-take-in-Bytes.ensures.halts.sound (λ e. cc) ∙ c.loop-count.invariant.refusals

pub returns-in-End-clause-sound : goal.returns-in-End-clause-sound
returns-in-End-clause-sound g c = λ other. c.finish.ensures.halts.sound other ∙ c.loop-count.invariant.refusals

pub returns-in-Idle-clause-sound : goal.returns-in-Idle-clause-sound
returns-in-Idle-clause-sound g c = λ other. c.loop-count.invariant.refusals

pub returns-in-Failed-clause-sound : goal.returns-in-Failed-clause-sound
returns-in-Failed-clause-sound g c = λ other. c.loop-count.invariant.refusals
