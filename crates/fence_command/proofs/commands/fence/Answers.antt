use Rattle.std.proofs.lemmas.Result.{err_from_is_err_and}
use Rattle.mav_ports.specs.Gets.{IsSpent}
use Rattle.run_status.specs.Runs.{port_outcome}
use Rattle.fence_command.specs.Files.{state_of}
use Rattle.fence_command.proofs.Finish.{plan_halts, finished}
use Rattle.fence_command.proofs.commands.fence.Goals as goal

pub returns-in_err-check_plans-clause-before_status : goal.returns-in_err-check_plans-clause-before_status
returns-in_err-check_plans-clause-before_status g c =
    let e = err_from_is_err_and c.from_residual-in_err-check_plans.result c.from_residual-in_err-check_plans.ensures.1 in
    rw (e.1, e.2)
    (plan_halts (port_outcome (g.S.Source.has_ended c.read_file.new.input × IsSpent (g.S.Source.left c.read_file.new.input)) (g.S.Source.faults c.args.main.now) (g.S.Source.faults c.read_file.new.input) (g.S.Source.idles c.args.main.now) (g.S.Source.idles c.read_file.new.input) (g.K.Sink.faults c.args.out.now) (g.K.Sink.faults c.args.out.now))
    (g.S.Source.left c.args.main.now) (g.S.Source.left c.read_file.new.input) (g.K.Sink.sent c.args.out.now) (state_of c.in_ok-file.file) c.in_ok-file.ensures.holds c.in_err-check_plans.field-0.0 c.in_err-check_plans.ensures)

pub returns-clause-before_status : goal.returns-clause-before_status
returns-clause-before_status g c =
    finished (g.S.Source.has_ended c.read_file.new.input × IsSpent (g.S.Source.left c.read_file.new.input)) (g.S.Source.faults c.args.main.now) (g.S.Source.faults c.read_file.new.input) (g.S.Source.idles c.args.main.now) (g.S.Source.idles c.read_file.new.input) (g.K.Sink.faults c.args.out.now) (g.K.Sink.faults c.write_report.new.out)
    (g.S.Source.left c.args.main.now) (g.S.Source.left c.read_file.new.input) (g.K.Sink.sent c.args.out.now) (g.K.Sink.sent c.write_report.new.out) (state_of c.in_ok-file.file) c.in_ok-file.ensures.holds c.write_report.result c.in_ok-check_plans.ensures c.write_report.ensures.reported c.write_report.ensures.refused c.write_report.ensures.no_memory c.write_report.ensures.errors
