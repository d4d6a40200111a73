use Rattle.std.proofs.Common.{ℕ, ◌/◌, ◌%◌, ◌++◌, arith}
use Rattle.std.specs.Fmt.{decimal}
use Rattle.itoa.proofs.Decimal.{decimal_four}
use Rattle.mav_text.specs.FrameText.{pair_text}
use Rattle.mav_text.proofs.DecimalSteps.{two_put}
use Rattle.mav_text.proofs.decimals.put_middle.Goals as goal

pub returns-clause-text : goal.returns-clause-text
returns-clause-text g c =
    let number : ℕ = c.args.number in
    two_put _ _ _ (decimal (number / 10000)) (pair_text (number % 10000 / 100) ++ pair_text (number % 10000 % 100)) (decimal number)
    c.put_low-index.ensures.text c.put_four.ensures.text (decimal_four number (omega arith) (omega arith))
