use Rattle.std.proofs.Common.{◌∙◌}
use Rattle.fleet_world.proofs.NewsReports.{frames_among}
use Rattle.fleet_world.proofs.events.frames_in.Goals as goal

pub returns : goal.returns
returns c = λ events e. c.count_frames.ensures ∙ frames_among _ events e
