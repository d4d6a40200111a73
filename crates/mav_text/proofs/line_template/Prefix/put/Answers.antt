use Rattle.std.proofs.Common.{List, ℕ, ◌++◌, take, ap, ◌∙◌}
use Rattle.mav_text.proofs.line_template.Prefix.put.Goals as goal

pub returns-then-self-le-SHORT_PREFIX_BYTES-clause-text : goal.returns-then-self-le-SHORT_PREFIX_BYTES-clause-text
returns-then-self-le-SHORT_PREFIX_BYTES-clause-text c =
    c.put_short.ensures.text ∙ ap (λ (t : List ℕ). take c.args.at c.args.chunk.now ++ t) c.self.view_is
