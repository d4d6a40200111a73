use Rattle.std.proofs.Common.{refl}
use Rattle.mav_text.proofs.Tables.{hex_at}
use Rattle.mav_text.proofs.digits.byte_digits.Goals as goal

pub returns : goal.returns
returns c = let p = hex_at c.args.byte c.ranges.byte.fits in rw (c.from-from.ensures, p.0, p.1) refl
