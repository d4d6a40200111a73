use Rattle.std.proofs.Common.{◌≡◌, ◌∙◌, ◌≤◌, ◌-◌, ◌++◌, ℕ, List, length, take, arith, ap, sym, subst, refl}
use Rattle.std.proofs.lemmas.List.{length-append, length-take-le}
use Rattle.std.proofs.lemmas.Result.{err_from_is_err_and}
use Rattle.std.specs.Io.KnownBytes.{prepend_known}
use Rattle.run_status.proofs.RunsBeforeStatus.{took_more, took_none}
use Rattle.mav_ports.specs.Counts.{Rose}
use Rattle.mav_ports.specs.Gets.{IsSpent}
use Rattle.dialect_command.specs.Spec.{most_definition_bytes}
use Rattle.dialect_command.specs.Reads.{of_input}
use Rattle.dialect_command.proofs.Readings.{halts_failed, halts_idled, halts_long, halts_memory, passes}
use Rattle.dialect_command.proofs.definitions.read_all.Goals as goal

-- a piece for which there is room
stays_within : (taken buf more : List ℕ) (count : ℕ) → count ≤ length buf → more ≡ taken ++ take count buf → length taken ≤ most_definition_bytes → count ≤ most_definition_bytes - length taken → length more ≤ most_definition_bytes
stays_within taken buf more count within e fits few = omega (arith, fits, few, ap length e, length-append taken (take count buf), length-take-le count buf within)

pub loop-count-preserved : goal.loop-count-preserved
loop-count-preserved g c =
    let inv = c.loop-count.invariant in let read = c.in-Bytes.ensures in
    let bytes = c.loop-count.bytes.items in let more = c.extend_from_slice.new.self.items in
    let piece = take c.in-Bytes.count c.read_on.new.buf in
    let longer : more ≡ bytes ++ piece = c.in_ok-extend_from_slice-in-Bytes.ensures.items in
    record {
      took = subst (λ all. g.S.Source.left c.args.input.now ≡ prepend_known all (g.S.Source.left c.read_on.new.source)) (sym longer)
          (took_more bytes piece (g.S.Source.left c.args.input.now) (g.S.Source.left c.loop-count.input) (g.S.Source.left c.read_on.new.source) inv.took read.bytes);
      fits = stays_within bytes c.read_on.new.buf more c.in-Bytes.count read.within.1 longer inv.fits (omega (arith, c.if-count-len.false, c.len.ensures));
      faults = read.sound (λ e. cc) ∙ inv.faults;
      idles = omega (arith, read.idles, inv.idles);
    }

pub returns-then-count-len-clause-halts : goal.returns-then-count-len-clause-halts
returns-then-count-len-clause-halts g c =
    let bytes = c.loop-count.bytes.items in
    let piece = take c.in-Bytes.count c.read_on.new.buf in
    halts_long (of_input (g.S.Source.has_ended c.read_on.new.source × IsSpent (g.S.Source.left c.read_on.new.source)) (g.S.Source.faults c.args.input.now) (g.S.Source.faults c.read_on.new.source) (g.S.Source.idles c.args.input.now) (g.S.Source.idles c.read_on.new.source)) (g.S.Source.left c.args.input.now) (g.S.Source.left c.read_on.new.source) (bytes ++ piece)
    (took_more bytes piece (g.S.Source.left c.args.input.now) (g.S.Source.left c.loop-count.input) (g.S.Source.left c.read_on.new.source) c.loop-count.invariant.took c.in-Bytes.ensures.bytes)
    (passes bytes c.read_on.new.buf c.in-Bytes.count c.in-Bytes.ensures.within.1 (omega (arith, c.if-count-len.true, c.len.ensures)))

pub returns-in_err-extend_from_slice-in-Bytes-clause-halts : goal.returns-in_err-extend_from_slice-in-Bytes-clause-halts
returns-in_err-extend_from_slice-in-Bytes-clause-halts g c =
    let bytes = c.loop-count.bytes.items in
    let piece = take c.in-Bytes.count c.read_on.new.buf in
    let e = err_from_is_err_and c.from_residual.result c.from_residual.ensures.1 in
    rw (e.1, e.2) (halts_memory (of_input (g.S.Source.has_ended c.read_on.new.source × IsSpent (g.S.Source.left c.read_on.new.source)) (g.S.Source.faults c.args.input.now) (g.S.Source.faults c.read_on.new.source) (g.S.Source.idles c.args.input.now) (g.S.Source.idles c.read_on.new.source)) (g.S.Source.left c.args.input.now) (g.S.Source.left c.read_on.new.source) (bytes ++ piece)
    (took_more bytes piece (g.S.Source.left c.args.input.now) (g.S.Source.left c.loop-count.input) (g.S.Source.left c.read_on.new.source) c.loop-count.invariant.took c.in-Bytes.ensures.bytes))

pub returns-in-Idle-clause-halts : goal.returns-in-Idle-clause-halts
returns-in-Idle-clause-halts g c =
    let inv = c.loop-count.invariant in let read = c.in-Idle.ensures in
    halts_idled (of_input (g.S.Source.has_ended c.read_on.new.source × IsSpent (g.S.Source.left c.read_on.new.source)) (g.S.Source.faults c.args.input.now) (g.S.Source.faults c.read_on.new.source) (g.S.Source.idles c.args.input.now) (g.S.Source.idles c.read_on.new.source)) (g.S.Source.left c.args.input.now) (g.S.Source.left c.read_on.new.source) c.loop-count.bytes.items
    (took_none c.loop-count.bytes.items (g.S.Source.left c.args.input.now) (g.S.Source.left c.loop-count.input) (g.S.Source.left c.read_on.new.source) inv.took read.bytes)
    inv.fits (λ below. omega (arith, read.idled refl below, inv.idles))

pub returns-in-Failed-clause-halts : goal.returns-in-Failed-clause-halts
returns-in-Failed-clause-halts g c =
    let inv = c.loop-count.invariant in let read = c.in-Failed.ensures in
    halts_failed (of_input (g.S.Source.has_ended c.read_on.new.source × IsSpent (g.S.Source.left c.read_on.new.source)) (g.S.Source.faults c.args.input.now) (g.S.Source.faults c.read_on.new.source) (g.S.Source.idles c.args.input.now) (g.S.Source.idles c.read_on.new.source)) (g.S.Source.left c.args.input.now) (g.S.Source.left c.read_on.new.source) c.loop-count.bytes.items
    (took_none c.loop-count.bytes.items (g.S.Source.left c.args.input.now) (g.S.Source.left c.loop-count.input) (g.S.Source.left c.read_on.new.source) inv.took read.bytes)
    inv.fits (subst (λ n. Rose n (g.S.Source.faults c.read_on.new.source)) inv.faults (read.failed refl))

pub returns-in-End-clause-halts : goal.returns-in-End-clause-halts
returns-in-End-clause-halts g c = tt
