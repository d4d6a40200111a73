use Rattle.std.proofs.Common.{refl, map, IsErr}
use Rattle.std.specs.Result.{result_err}
use Rattle.std.proofs.lemmas.Result.{err_from_is_err_and}
use Rattle.command_line.specs.declared.commands.OptionName.TheVariants.{Frames, Key}
use Rattle.command_line.specs.Forms.{has_given}
use Rattle.command_line.specs.Lines.{given_of}
use Rattle.run_status.specs.Seen.{input_of, output_of, before_status_over}
use Rattle.command_inputs.proofs.KeyNames.{at_key}
use Rattle.fleet_line.proofs.Scenarios.{fleets_behind}
use Rattle.fleet_line.proofs.fleets.run_fleet.Goals as goal

pub returns-in_err-named_key-clause-fleet : goal.returns-in_err-named_key-clause-fleet
returns-in_err-named_key-clause-fleet g c =
    let e = err_from_is_err_and c.from_residual.result c.from_residual.ensures.1 in
    rw (e.1, e.2) (at_key _ _ _ _ _ _ c.in_err-named_key.ensures.named (c.in_err-named_key.ensures.halts _ _) refl c.in_err-named_key.ensures.within refl)

pub returns-clause-fleet : goal.returns-clause-fleet
returns-clause-fleet g c =
    fleets_behind
    (has_given Key (map given_of c.args.line.now.settings.items)) (has_given Frames (map given_of c.args.line.now.settings.items))
    (before_status_over (output_of g.K.Sink.faults g.K.Sink.sent c.args.out.now c.fleet.new.out) (result_err c.fleet.result)) (IsErr c.fleet.result)
    (input_of g.S.Source.has_ended g.S.Source.faults g.S.Source.idles g.S.Source.left c.args.key.now c.named_key.new.key)
    (input_of g.S.Source.has_ended g.S.Source.faults g.S.Source.idles g.S.Source.left c.args.main.now c.fleet.new.main)
    c.in_ok-named_key.field-0 c.or_default-secret.result c.has-frames.result
    c.in_ok-named_key.ensures.is c.or_default-secret.ensures c.has-frames.ensures c.fleet.ensures.before_status
