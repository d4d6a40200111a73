use Rattle.std.proofs.Common.{◌==◌, sym, ap, ◌∙◌}
use Rattle.std.specs.Option.{option_copied}
use Rattle.dialect.proofs.Keys.{find-position, find-nowhere}
use Rattle.dialect.proofs.layouts.Layouts.get.Goals as goal

pub returns-in_err-index : goal.returns-in_err-index
returns-in_err-index c =
    ap option_copied c.from_residual.ensures ∙ sym (find-nowhere (λ def. c.args.id == def.id) c.args.self.now (sym c.in_err-index.ensures))

pub returns : goal.returns
returns c = c.at.ensures ∙ sym (find-position (λ def. c.args.id == def.id) c.args.self.now c.in_ok-index.index (sym c.in_ok-index.ensures))
