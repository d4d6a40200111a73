use Rattle.mav_text.proofs.SmallNumbers.{small_few, small_shown}
use Rattle.mav_text.proofs.small.small_digits.Goals as goal

pub returns-clause-few : goal.returns-clause-few
returns-clause-few c = rw (c.from-2.ensures, c.from.ensures) (small_few _ c.args.number c.ranges.number.fits)

pub returns-clause-digits : goal.returns-clause-digits
returns-clause-digits c = rw (c.from-2.ensures, c.from.ensures) (small_shown _ c.args.number c.ranges.number.fits)
