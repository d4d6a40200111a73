-- The index of an id is that of its layout.
use Rattle.std.proofs.Common.{ap, ◌∙◌}
use Rattle.dialect.specs.Indices.{index_with}
use Rattle.dialect.proofs.layouts.Layouts.index_of.Goals as goal

pub returns : goal.returns
returns c = c.copied.ensures ∙ c.get.ensures.value ∙ c.self.invariant c.args.id ∙ ap (index_with c.args.id) c.self.view_is
