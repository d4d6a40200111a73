use Rattle.mav_frame.proofs.Buffers.{pads}
use Rattle.mav_frame.proofs.checking.payload_of.Goals as goal

pub returns-clause-padded : goal.returns-clause-padded
returns-clause-padded c = pads c.args.bytes.now _ c.requires c.fill.ensures
