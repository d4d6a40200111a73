use Rattle.std.proofs.Common.{List, Bool, sym, ap, ◌∙◌}
use Rattle.link_table.specs.Routing.{has_port}
use Rattle.link_table.proofs.Bits.{port_flag}
use Rattle.link_table.proofs.ways.Ways.has.Goals as goal

pub returns : goal.returns
returns c =
    sym (port_flag c.self.inside.mask c.args.port c.requires.from c.requires.to) ∙ ap (λ (w : List Bool). has_port w c.args.port) c.self.view_is
