use Rattle.fleet_safety.proofs.ReportedLines as lines
use Rattle.fleet_safety.proofs.meanings.every_line_reported.Goals as goal

pub returns : goal.returns
returns c = lines.every_line
