use Rattle.std.proofs.Common.{refl}
use Rattle.std.proofs.lemmas.Result.{err_from_is_err_and}
use Rattle.run_status.proofs.RunsBeforeStatus.{before_status_nothing}
use Rattle.fleet_command.specs.Spec.{fleet_spec}
use Rattle.fleet_command.proofs.Steps.{reading_new}
use Rattle.fleet_command.proofs.playing.fleet.Goals as goal

pub returns-clause-before_status : goal.returns-clause-before_status
returns-clause-before_status g c =
    let first = c.in_ok-player.ensures.first in
    c.play.ensures.before_status c.args.key c.args.frames (reading_new c.args.key c.args.frames c.in_ok-player.player.world c.in_ok-player.player.number c.in_ok-player.player.line.items (g.K.Sink.sent c.args.out.now) c.in_ok-player.ensures.world first.0 first.1)

pub returns-in_err-player-clause-before_status : goal.returns-in_err-player-clause-before_status
returns-in_err-player-clause-before_status g c =
    let e = err_from_is_err_and c.from_residual.result c.from_residual.ensures.1 in
    rw (e.1, e.2) (before_status_nothing (fleet_spec c.args.key c.args.frames) _ (g.S.Source.left c.args.main.now) (g.K.Sink.sent c.args.out.now))

pub returns-in_err-player-clause-sound : goal.returns-in_err-player-clause-sound
returns-in_err-player-clause-sound g c = λ other. refl

pub returns-in_err-buf-clause-before_status : goal.returns-in_err-buf-clause-before_status
returns-in_err-buf-clause-before_status g c =
    let e = err_from_is_err_and c.from_residual-in_err-buf.result c.from_residual-in_err-buf.ensures.1 in
    rw (e.1, e.2) (before_status_nothing (fleet_spec c.args.key c.args.frames) _ (g.S.Source.left c.args.main.now) (g.K.Sink.sent c.args.out.now))

pub returns-in_err-buf-clause-sound : goal.returns-in_err-buf-clause-sound
returns-in_err-buf-clause-sound g c = λ other. refl

pub returns-clause-sound : goal.returns-clause-sound
returns-clause-sound g c = c.play.ensures.sound
