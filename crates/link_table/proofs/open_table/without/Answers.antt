use Rattle.link_table.proofs.Bits.{without_bits}
use Rattle.link_table.proofs.open_table.without.Goals as goal

pub returns : goal.returns
returns c = λ k. without_bits c.args.word c.args.link k c.ranges.word.fits c.requires
