use Rattle.std.proofs.Common.{take}
use Rattle.fleet_world.proofs.NewsReports.{ReportedOf}
use Rattle.fleet_world.proofs.events.report_all.Given as goal

abbrev pub invariant-loop-piece : goal.invariant-loop-piece
invariant-loop-piece l = ReportedOf l.name l.values (take l.piece-index l.news) l.initial.sent l.sent l.initial.report l.report
