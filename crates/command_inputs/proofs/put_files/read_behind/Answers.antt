use Rattle.std.proofs.Common.{◌++◌, take, arith}
use Rattle.std.proofs.lemmas.List.{length-append, length-take-le}
use Rattle.std.proofs.lemmas.Result.{err_from_is_err_and}
use Rattle.mav_ports.specs.Gets.{IsSpent}
use Rattle.run_status.specs.Runs.{port_outcome}
use Rattle.run_status.proofs.RunsBeforeStatus.{took_more}
use Rattle.command_inputs.proofs.PutHalts.{halts_memory, at_most}
use Rattle.command_inputs.proofs.put_files.read_behind.Goals as goal

pub returns-in_err-extend_from_slice-in-Bytes-clause-halts : goal.returns-in_err-extend_from_slice-in-Bytes-clause-halts
returns-in_err-extend_from_slice-in-Bytes-clause-halts g c =
    let e = err_from_is_err_and c.from_residual.result c.from_residual.ensures.1 in
    let bytes = c.args.bytes.now.items in let piece = take c.in-Bytes.count c.read_on.new.buf in
    rw (e.1, e.2) (λ first faults idles refusals sent h fits.
    halts_memory (port_outcome (g.S.Source.has_ended c.read_on.new.source × IsSpent (g.S.Source.left c.read_on.new.source)) faults (g.S.Source.faults c.read_on.new.source) idles (g.S.Source.idles c.read_on.new.source) refusals refusals) first (g.S.Source.left c.read_on.new.source) sent (bytes ++ piece) (took_more bytes piece first (g.S.Source.left c.args.input.now) (g.S.Source.left c.read_on.new.source) h.took c.in-Bytes.ensures.bytes))

pub returns-in_err-extend_from_slice-in-Bytes-clause-within : goal.returns-in_err-extend_from_slice-in-Bytes-clause-within
returns-in_err-extend_from_slice-in-Bytes-clause-within g c =
    let e = err_from_is_err_and c.from_residual.result c.from_residual.ensures.1 in
    let bytes = c.args.bytes.now.items in let buf = c.read_on.new.buf in let piece = take c.in-Bytes.count buf in
    rw e.1 (λ first faults idles h fits.
    at_most first (g.S.Source.left c.read_on.new.source) (bytes ++ piece) (took_more bytes piece first (g.S.Source.left c.args.input.now) (g.S.Source.left c.read_on.new.source) h.took c.in-Bytes.ensures.bytes)
    (omega (arith, length-append bytes piece, length-take-le c.in-Bytes.count buf c.in-Bytes.ensures.within.1, c.in-Bytes.ensures.within.1, c.read_on.auto.buf, fits)))
