use Rattle.std.proofs.Common.{rules, subst}
use Rattle.mav_frame.specs.Packet.{FitsBlock}
use Rattle.mav_frame.proofs.raw.block_fits.Goals as goal

pub returns : goal.returns
returns c = subst FitsBlock c.block.view_is (record { link = search rules; stamp = c.block.invariant; length = c.block.told; bytes = search rules })
