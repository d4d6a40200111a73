use Rattle.std.proofs.Common.{◌∙◌}
use Rattle.mav_frame.specs.Raw.{packet_in}
use Rattle.mav_frame.proofs.raw.RawFrame.to_frame.Goals as goal

pub returns : goal.returns
unfolding packet_in
returns c = c.frame_at.ensures ∙ c.self.view_is
