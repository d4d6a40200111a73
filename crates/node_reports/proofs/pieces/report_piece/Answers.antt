use Rattle.node_reports.proofs.NewsPieces.{added, none_added}
use Rattle.node_reports.proofs.pieces.report_piece.Goals as goal

pub returns-in-Some : goal.returns-in-Some
returns-in-Some c = added _ _ _ _ _ _ c.in-Some.event _ _ c.in-Some.is c.event_of.ensures c.add.ensures

pub returns-in-None : goal.returns-in-None
returns-in-None c = λ event count e have numbered. none_added _ _ _ c.in-None.is (c.event_of.ensures event count e have numbered)
