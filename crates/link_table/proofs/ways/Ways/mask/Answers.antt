use Rattle.std.proofs.Common.{List, Bool, sym, ap, ◌∙◌}
use Rattle.link_table.specs.Routing.{has_port}
use Rattle.link_table.proofs.Bits.{port_flag}
use Rattle.link_table.proofs.ways.Ways.mask.Goals as goal

pub returns : goal.returns
returns c = λ port from to. sym (port_flag c.self.inside.mask port from to) ∙ ap (λ (w : List Bool). has_port w port) c.self.view_is
