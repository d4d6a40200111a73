use Rattle.std.proofs.Common.{sym, ◌∙◌}
use Rattle.x25_check.proofs.Halving.{extra_there, extra_nowhere}
use Rattle.x25_check.proofs.extras.extra_in.Goals as goal

pub returns-in_err-at : goal.returns-in_err-at
returns-in_err-at c =
    c.from_residual.ensures ∙ sym (extra_nowhere c.args.pairs.now c.args.id (sym c.in_err-at.ensures))

pub returns : goal.returns
returns c =
    sym (extra_there c.args.pairs.now c.args.id c.in_ok-at.at _ (sym c.in_ok-at.ensures))
