use Rattle.mav_frame.proofs.RawFrames.{encodes_frame}
use Rattle.mav_frame.proofs.raw.RawFrame.of.Goals as goal

pub invariant_of-result : goal.invariant_of-result
invariant_of-result c = (encodes_frame c.args.bytes.now c.args.frame.now c.requires c.fits.ensures).0

pub returns : goal.returns
returns c = (encodes_frame c.args.bytes.now c.args.frame.now c.requires c.fits.ensures).1
