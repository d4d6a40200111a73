use Rattle.std.proofs.Common.{◌<◌, arith, length, subst, sym}
use Rattle.relay_rules.specs.Kept.{AreNumbered, LinksKept, Represents}
use Rattle.relay_rules.proofs.Numbering.{numbered_less}
use Rattle.relay_rules.proofs.Routes.{closes}
use Rattle.relay_rules.proofs.links.Links.close.Goals as goal

pub overflow_cast-index : goal.overflow_cast-index
overflow_cast-index c =
    let within = subst (λ (v : LinksKept). c.args.index < length v.links) (sym c.self.view_is) c.requires in
    let e = c.self.inside.links.ok in
    omega (arith, within, e, c.self.invariant.0)

pub close-requires : goal.close-requires
close-requires c =
    let within = subst (λ (v : LinksKept). c.args.index < length v.links) (sym c.self.view_is) c.requires in
    let e = c.self.inside.links.ok in
    omega (arith, within, e, c.self.invariant.0)

pub invariant_of-self : goal.invariant_of-self
invariant_of-self c =
    let r = c.remove-link.ensures in
    (omega (arith, r.len, c.self.invariant.0), omega (arith, r.capacity, c.self.invariant.1), subst (AreNumbered c.self.inside.given) (sym r.items) (numbered_less c.self.inside.given c.args.index c.self.inside.links.items c.self.invariant.2))

pub returns-clause-state : goal.returns-clause-state
returns-clause-state c = λ state r.
    let inside = c.self.inside in
    let view : LinksKept = record { given = inside.given; links = inside.links.items; words = inside.table; kept = inside.stamps } in
    let within = subst (λ (v : LinksKept). c.args.index < length v.links) (sym c.self.view_is) c.requires in
    closes view c.remove-link.new.self.items c.close.new.self c.args.index state within c.remove-link.ensures.items c.close.ensures (subst (λ (v : LinksKept). Represents v state) (sym c.self.view_is) r)
