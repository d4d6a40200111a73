use Rattle.std.proofs.Common.{subst, ◌∙◌, ap}
use Rattle.std.proofs.lemmas.Result.{err_from_is_err_and}
use Rattle.std.specs.Io.KnownBytes.{append_known}
use Rattle.mav_ports.specs.Puts.{SentPrefix}
use Rattle.fleet_command.proofs.Steps.{finish_halted, finish_memory, finish_front, finish_done}
use Rattle.fleet_command.proofs.player.Player.finish.Goals as goal

pub returns-in_err-last_line-clause-halted : goal.returns-in_err-last_line-clause-halted
returns-in_err-last_line-clause-halted g c =
    let e = err_from_is_err_and c.from_residual.result c.from_residual.ensures.1 in
    rw (e.1, e.2) (λ key frames taken before r.
    finish_halted key frames c.in_err-last_line.field-0.0 taken c.args.self.now.world c.args.self.now.number c.args.self.now.line.items before (g.K.Sink.sent c.args.out.now) (g.K.Sink.sent c.last_line.new.out) r
    (c.in_err-last_line.ensures.played frames r.soFar before r.holds))

pub returns-in_err-plans-clause-halted : goal.returns-in_err-plans-clause-halted
returns-in_err-plans-clause-halted g c =
    let e = err_from_is_err_and c.from_residual-in_err-plans.result c.from_residual-in_err-plans.ensures.1 in
    rw (e.1, e.2) (λ key frames taken before r.
    finish_memory key frames taken c.args.self.now.world c.last_line.new.self.world c.args.self.now.number c.args.self.now.line.items before (g.K.Sink.sent c.args.out.now) (g.K.Sink.sent c.last_line.new.out) r
    (c.in_ok-last_line.ensures.played frames r.soFar before r.holds))

pub returns-in_err-write_all-clause-halted : goal.returns-in_err-write_all-clause-halted
returns-in_err-write_all-clause-halted g c =
    let e = err_from_is_err_and c.from_residual-in_err-write_all.result c.from_residual-in_err-write_all.ensures.1 in
    rw (e.1, e.2) (λ key frames taken before r.
    finish_front key frames taken c.args.self.now.world c.last_line.new.self.world c.args.self.now.number c.args.self.now.line.items c.in_ok-plans.plans.text before (g.K.Sink.sent c.args.out.now) (g.K.Sink.sent c.last_line.new.out) (g.K.Sink.sent c.write_all.new.sink) r
    (c.in_ok-last_line.ensures.played frames r.soFar before r.holds) c.in_ok-plans.ensures
    (subst (SentPrefix (g.K.Sink.sent c.last_line.new.out) (g.K.Sink.sent c.write_all.new.sink)) c.bytes.ensures c.write_all.ensures.front))

pub returns-clause-done : goal.returns-clause-done
returns-clause-done g c = λ key frames taken before r.
    finish_done key frames taken c.args.self.now.world c.last_line.new.self.world c.args.self.now.number c.args.self.now.line.items c.in_ok-plans.plans.text before (g.K.Sink.sent c.args.out.now) (g.K.Sink.sent c.last_line.new.out) (g.K.Sink.sent c.write_all.new.sink) r
    (c.in_ok-last_line.ensures.played frames r.soFar before r.holds) c.in_ok-plans.ensures
    (c.in_ok-write_all.ensures.ok ∙ ap (append_known (g.K.Sink.sent c.last_line.new.out)) c.bytes.ensures)
