use Rattle.std.proofs.Common.{◌<◌, length, sym, subst}
use Rattle.relay_rules.specs.Kept.{LinksKept}
use Rattle.relay_rules.proofs.Routes.{element}
use Rattle.relay_rules.proofs.links.Links.link.Goals as goal

pub returns-clause-from : goal.returns-clause-from
returns-clause-from c =
    let within = subst (λ (v : LinksKept). c.args.index < length v.links) (sym c.self.view_is) c.requires in
    (c.self.invariant.2.ports c.args.index c.index.result.now (element c.self.inside.links.items c.args.index c.index.result.now within c.index.ensures)).0

pub returns-clause-to : goal.returns-clause-to
returns-clause-to c =
    let within = subst (λ (v : LinksKept). c.args.index < length v.links) (sym c.self.view_is) c.requires in
    (c.self.invariant.2.ports c.args.index c.index.result.now (element c.self.inside.links.items c.args.index c.index.result.now within c.index.ensures)).1
