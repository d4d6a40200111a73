use Rattle.fleet_world.proofs.NewsReports.{piece_reported}
use Rattle.fleet_world.proofs.events.report_one.Goals as goal

pub returns : goal.returns
returns c =
    piece_reported _ _ _ _ _ _ _ _ _ c.in_ok-keep_frame.ensures.kept c.in_ok-keep_frame.ensures.count c.len.ensures c.report_piece.ensures
