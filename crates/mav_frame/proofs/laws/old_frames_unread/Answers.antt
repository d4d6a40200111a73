use Rattle.mav_frame.proofs.Versions.{old_frames_unread}
use Rattle.mav_frame.proofs.laws.old_frames_unread.Goals as goal

pub returns : goal.returns
returns c = old_frames_unread
