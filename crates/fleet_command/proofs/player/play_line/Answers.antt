use Rattle.std.proofs.Common.{◌≡◌, [], Some, subst, ◌∙◌, ap}
use Rattle.std.proofs.lemmas.Result.{err_from_is_err_and}
use Rattle.std.specs.Io.KnownBytes.{append_known}
use Rattle.mav_ports.specs.Puts.{SentPrefix}
use Rattle.scenario_lines.specs.declared.faults.LineFault.{LineFault}
use Rattle.scenario_lines.specs.Faults.{IfBad}
use Rattle.scenario_lines.specs.Reasons.{reason_against}
use Rattle.fleet_world.specs.WorldView.{context_in}
use Rattle.fleet_command.proofs.Steps.{line_done, line_unwritten, line_rejected, line_fails, line_no_memory}
use Rattle.fleet_command.proofs.player.play_line.Goals as goal

pub returns-in-Err-Bad-clause-played : goal.returns-in-Err-Bad-clause-played
returns-in-Err-Bad-clause-played g c =
    let bad = subst (λ (e : LineFault). IfBad e (λ r. reason_against (context_in c.args.world.now) c.args.text.now ≡ Some r)) c.in-Err-Bad.field-0-is c.in-Err-Bad.ensures.bad in
    λ frames p before holds. line_rejected [] frames p c.args.world.now c.args.number c.args.text.now c.in-Err-Bad.reason c.bad_line.result before (g.K.Sink.sent c.args.out.now) holds bad c.bad_line.ensures

pub returns-in-Err-NoMemory-clause-played : goal.returns-in-Err-NoMemory-clause-played
returns-in-Err-NoMemory-clause-played g c = λ frames p before holds. line_no_memory [] frames p _ c.args.number c.args.text.now before _ holds

pub returns-in_err-write_all-in-Ok-line-clause-played : goal.returns-in_err-write_all-in-Ok-line-clause-played
returns-in_err-write_all-in-Ok-line-clause-played g c =
    let e = err_from_is_err_and c.from_residual.result c.from_residual.ensures.1 in
    let read = c.in-Ok.ensures.ok in
    rw (e.1, e.2) (λ frames p before holds.
    line_unwritten [] frames p c.args.world.now c.line.new.self c.args.number c.args.text.now c.in-Ok-line.report c.in-Ok.line before (g.K.Sink.sent c.args.out.now) (g.K.Sink.sent c.write_all.new.sink) holds read.0 read.1 c.in-Ok-line.ensures.done
    (subst (SentPrefix (g.K.Sink.sent c.args.out.now) (g.K.Sink.sent c.write_all.new.sink)) c.bytes.ensures c.write_all.ensures.front))

pub returns-in_ok-write_all-in-Ok-line-clause-played : goal.returns-in_ok-write_all-in-Ok-line-clause-played
returns-in_ok-write_all-in-Ok-line-clause-played g c =
    let read = c.in-Ok.ensures.ok in
    λ frames p before holds.
    line_done [] frames p c.args.world.now c.line.new.self c.args.number c.args.text.now c.in-Ok-line.report c.in-Ok.line before (g.K.Sink.sent c.args.out.now) (g.K.Sink.sent c.write_all.new.sink) holds read.0 read.1 c.in-Ok-line.ensures.done
    (c.in_ok-write_all-in-Ok-line.ensures.ok ∙ ap (append_known (g.K.Sink.sent c.args.out.now)) c.bytes.ensures)

pub returns-in-Err-clause-played : goal.returns-in-Err-clause-played
returns-in-Err-clause-played g c =
    let read = c.in-Ok.ensures.ok in
    λ frames p before holds.
    line_fails [] frames p c.args.world.now c.args.number c.args.text.now c.in-Ok.line c.in-Err.fault c.fails.result before (g.K.Sink.sent c.args.out.now) holds read.0 read.1 c.in-Err.ensures.error c.fails.ensures
