use Rattle.std.proofs.Common.{refl}
use Rattle.std.proofs.lemmas.Result.{err_from_is_err_and}
use Rattle.mav_profile.specs.Profile.{profile_definitions}
use Rattle.dialect_command.specs.Spec.{definitions_spec}
use Rattle.dialect_command.proofs.Endings.{untold_unread}
use Rattle.mav_log.specs.Logging.{log_spec}
use Rattle.command_inputs.proofs.NamedRuns.{unmade_as}
use Rattle.dialect_command.proofs.Known.{after_definitions, at_definitions}
use Rattle.mav_log.proofs.log_asked.run_log.Goals as goal

pub returns-in_err-known-clause-logs : goal.returns-in_err-known-clause-logs
returns-in_err-known-clause-logs g c =
    let line = c.args.line.now in
    let inputs = c.args.inputs.now in
    let e = err_from_is_err_and c.from_residual.result c.from_residual.ensures.1 in
    rw (e.1, e.2) (
      line.number,
      c.requires.says.number_is,
      at_definitions _ _ _ _ _ _
          (λ named. untold_unread definitions_spec.closing _ _ _ _ _ _ _ _ _ _ _ c.in_err-known.field-0.0 refl (c.in_err-known.ensures.halts named)) refl refl
          (λ unnamed. unmade_as g.S.Source.has_ended g.S.Source.faults g.S.Source.idles g.S.Source.left (g.K.Sink.faults c.args.out.now) (g.K.Sink.sent c.args.out.now)
          (log_spec line.command profile_definitions line.number) inputs.main c.in_err-known.field-0.0 (c.in_err-known.ensures.memory unnamed)),
    )

pub returns-clause-logs : goal.returns-clause-logs
returns-clause-logs g c =
    (c.args.line.now.number, c.requires.says.number_is, after_definitions _ _ _ _ _ c.in_ok-known.known _ c.in_ok-known.ensures.is c.log_by.ensures.runs)
