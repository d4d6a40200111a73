use Rattle.std.proofs.Common.{List, ℕ, ◌/◌, ◌%◌, ◌++◌, take, ap, ◌∙◌, arith}
use Rattle.std.specs.Fmt.{decimal}
use Rattle.std.proofs.lemmas.Fmt.{length-decimal-le}
use Rattle.itoa.proofs.Decimal.{decimal_pair}
use Rattle.mav_text.specs.FrameText.{pair_text}
use Rattle.mav_text.proofs.DecimalSteps.{two_put}
use Rattle.mav_text.proofs.decimals.put_low.Goals as goal

pub returns-clause-text : goal.returns-clause-text
returns-clause-text g c =
    let number : ℕ = c.args.number in
    two_put _ _ _ (decimal (number / 100)) (pair_text (number % 100)) (decimal number) c.put_digits-index.ensures.text
    (c.put_two.ensures.text ∙ ap (λ (t : List ℕ). take c.put_digits-index.result c.put_digits-index.new.chunk ++ t) c.pair_digits.ensures)
    (decimal_pair number (omega arith) (omega arith))

pub returns-clause-index : goal.returns-clause-index
returns-clause-index g c =
    let few = length-decimal-le 2 (c.args.number / 100) (omega arith) (omega arith) (omega arith) in
    (omega arith, omega arith)
