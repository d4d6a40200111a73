use Rattle.std.proofs.Common.{ℕ, ◌/◌, arith}
use Rattle.std.specs.Fmt.{decimal}
use Rattle.mav_text.proofs.DecimalSteps.{two_put, decimal_eight}
use Rattle.mav_text.proofs.decimals.put_large.Goals as goal

pub returns-clause-text : goal.returns-clause-text
returns-clause-text g c =
    let number : ℕ = c.args.number in
    two_put _ _ _ (decimal (number / 100000000)) _ (decimal number)
    c.put_high-index.ensures.text c.put_eight.ensures.text (decimal_eight number (omega arith) (omega arith))
