use Rattle.mav_frame.proofs.Versions.{encodings_are_prefix_free}
use Rattle.mav_frame.proofs.laws.encodings_are_prefix_free.Goals as goal

pub returns : goal.returns
returns c = encodings_are_prefix_free
