use Rattle.link_table.proofs.Bits.{mask_back}
use Rattle.link_table.proofs.ways.Ways.of.Goals as goal

pub invariant_of-result : goal.invariant_of-result
invariant_of-result c = mask_back c.args.mask c.ranges.mask.fits
