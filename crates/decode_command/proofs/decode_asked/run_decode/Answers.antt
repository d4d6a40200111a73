use Rattle.std.proofs.Common.{refl}
use Rattle.std.proofs.lemmas.Result.{err_from_is_err_and}
use Rattle.mav_profile.specs.Profile.{profile_definitions}
use Rattle.dialect_command.specs.Spec.{definitions_spec}
use Rattle.dialect_command.proofs.Endings.{untold_unread}
use Rattle.decode_command.specs.Spec.{decode_spec}
use Rattle.command_inputs.proofs.KeyNames.{after_key, at_key}
use Rattle.command_inputs.proofs.NamedRuns.{unmade_as}
use Rattle.dialect_command.proofs.Known.{after_definitions, at_definitions}
use Rattle.decode_command.proofs.decode_asked.run_decode.Goals as goal

pub returns-in_err-key-clause-decoded : goal.returns-in_err-key-clause-decoded
returns-in_err-key-clause-decoded g c =
    let e = err_from_is_err_and c.from_residual.result c.from_residual.ensures.1 in
    rw (e.1, e.2) (at_key _ _ _ _ _ _ c.in_err-key.ensures.named (c.in_err-key.ensures.halts _ _) refl c.in_err-key.ensures.within (refl, refl))

pub returns-in_err-dialect-clause-decoded : goal.returns-in_err-dialect-clause-decoded
returns-in_err-dialect-clause-decoded g c =
    let inputs = c.args.inputs.now in
    let e = err_from_is_err_and c.from_residual-in_err-dialect.result c.from_residual-in_err-dialect.ensures.1 in
    rw (e.1, e.2)
    (after_key _ _ _ _ _ c.in_ok-key.key _ c.in_ok-key.ensures.is
    (at_definitions _ _ _ _ _ _
    (λ named. untold_unread definitions_spec.closing _ _ _ _ _ _ _ _ _ _ _ c.in_err-dialect.field-0.0 refl (c.in_err-dialect.ensures.halts named)) refl refl
    (λ unnamed. unmade_as g.S.Source.has_ended g.S.Source.faults g.S.Source.idles g.S.Source.left (g.K.Sink.faults c.args.out.now) (g.K.Sink.sent c.args.out.now)
    (decode_spec (record { dialect = profile_definitions; key = c.in_ok-key.key })) inputs.main c.in_err-dialect.field-0.0 (c.in_err-dialect.ensures.memory unnamed))))

pub returns-clause-decoded : goal.returns-clause-decoded
returns-clause-decoded g c =
    after_key _ _ _ _ _ c.in_ok-key.key _ c.in_ok-key.ensures.is
    (after_definitions _ _ _ _ _ c.in_ok-dialect.dialect _ c.in_ok-dialect.ensures.is c.decode_by.ensures.untold)
