use Rattle.std.proofs.Common.{ℕ, ◌-◌, List, Bool, true, set, bit_or, ap, ◌∙◌}
use Rattle.link_table.specs.Bits.{flags_of}
use Rattle.link_table.proofs.Bits.{flags_with}
use Rattle.link_table.proofs.ways.Ways.with.Goals as goal

pub returns : goal.returns
returns c =
    c.of.ensures
    ∙ (ap (λ (bit : ℕ). flags_of (bit_or c.self.inside.mask bit)) c.bit_of.ensures
    ∙ (flags_with c.self.inside.mask c.args.port c.requires.from c.requires.to
    ∙ ap (λ (w : List Bool). set w (c.args.port - 1) true) c.self.view_is))
