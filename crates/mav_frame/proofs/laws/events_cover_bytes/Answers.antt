use Rattle.mav_frame.proofs.LongerParse.{events_cover_bytes}
use Rattle.mav_frame.proofs.laws.events_cover_bytes.Goals as goal

pub returns : goal.returns
returns c = events_cover_bytes
