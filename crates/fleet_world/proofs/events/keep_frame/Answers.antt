use Rattle.fleet_world.proofs.NewsReports.{frame_kept, frame_counted}
use Rattle.fleet_world.proofs.events.keep_frame.Goals as goal

pub returns-in-Sent-clause-kept : goal.returns-in-Sent-clause-kept
returns-in-Sent-clause-kept c = frame_kept _ _ _ _ _ _ c.in-Sent.is c.push.ensures

pub returns-in-Sent-clause-count : goal.returns-in-Sent-clause-count
returns-in-Sent-clause-count c = frame_counted _ _ _ _ _ c.push.ensures
