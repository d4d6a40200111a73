use Rattle.std.proofs.Common.{◌/◌, ◌^◌, bit_xor, ap, ◌∙◌}
use Rattle.x25_check.proofs.Slicing.{one_byte}
use Rattle.x25_check.proofs.check.after.Goals as goal

pub returns : goal.returns
returns c = ap (bit_xor (c.args.register / 2 ^ 8)) c.after_zeros.ensures ∙ one_byte c.args.register c.args.byte c.ranges.byte.fits
