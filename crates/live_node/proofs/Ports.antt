-- Calls of a port that read nothing.
use Rattle.std.proofs.Common.{◌∙◌}
use Rattle.mav_links.specs.Links.{LinkState}
use Rattle.live_node.specs.Ports.{SameRead}

pub same_twice : (a b c : LinkState) → SameRead a b → SameRead b c → SameRead a c
same_twice a b c f s = record { left = s.left ∙ f.left; idles = s.idles ∙ f.idles; pauses = s.pauses ∙ f.pauses; ended = s.ended ∙ f.ended }
