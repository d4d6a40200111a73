use Rattle.std.proofs.Common.{◌∙◌, ℕ, List, ap, subst}
use Rattle.std.specs.Io.KnownBytes.{append_known}
use Rattle.std.proofs.lemmas.Result.{err_from_is_err_and}
use Rattle.mav_ports.specs.Puts.{SentPrefix}
use Rattle.run_status.proofs.HeldLines.{lines_written, lines_refused}
use Rattle.run_status.proofs.held_lines.write_held.Goals as goal

pub returns-clause-writes : goal.returns-clause-writes
returns-clause-writes g c =
    lines_written _ c.args.lines.now.items _ (c.in_ok-write_all.ensures.ok ∙ ap (append_known (g.K.Sink.sent c.args.out.now)) c.deref.ensures.value) c.in_ok-write_all.ensures.same c.clear.ensures.items

pub returns-in_err-write_all-clause-writes : goal.returns-in_err-write_all-clause-writes
returns-in_err-write_all-clause-writes g c =
    let e = err_from_is_err_and c.from_residual.result c.from_residual.ensures.1 in
    let failed = c.in_err-write_all.ensures in
    rw (e.1, e.2)
    (lines_refused _ c.args.lines.now.items _ (subst (λ (text : List ℕ). SentPrefix (g.K.Sink.sent c.args.out.now) (g.K.Sink.sent c.write_all.new.sink) text) c.deref.ensures.value failed.front) failed.rose)
