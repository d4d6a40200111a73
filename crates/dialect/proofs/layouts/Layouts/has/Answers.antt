use Rattle.std.proofs.Common.{◌==◌, ap, ◌∙◌}
use Rattle.std.specs.Option.{is_some}
use Rattle.dialect.proofs.Keys.{position-any}
use Rattle.dialect.proofs.layouts.Layouts.has.Goals as goal

pub returns : goal.returns
returns c = c.is_some.ensures ∙ ap is_some c.index_of.ensures ∙ position-any (λ def. c.args.id == def.id) c.args.self.now
