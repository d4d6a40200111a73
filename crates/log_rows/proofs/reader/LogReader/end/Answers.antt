use Rattle.std.proofs.Common.{true, sym, subst}
use Rattle.log_rows.specs.Progress.{LogHeld, LogProgress}
use Rattle.log_rows.proofs.LogSteps.{closed_on}
use Rattle.log_rows.proofs.reader.LogReader.end.Goals as goal

pub returns-clause-progress : goal.returns-clause-progress
returns-clause-progress c extras taken given h =
    subst (λ (z : LogHeld). LogProgress extras taken given (record z { ended = true })) (sym c.self.view_is) (closed_on extras taken given c.args.self.now h)
