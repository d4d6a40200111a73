use Rattle.std.proofs.Common.{◌∙◌}
use Rattle.link_table.specs.Routing.{common_ways}
use Rattle.link_table.proofs.Bits.{flags_common}
use Rattle.link_table.proofs.ways.Ways.common.Goals as goal

pub returns : goal.returns
returns c = c.of.ensures ∙ (flags_common c.self.inside.mask c.other.inside.mask ∙ (λ i. common_ways (c.self.view_is i) (c.other.view_is i)))
