use Rattle.std.proofs.Common.{◌<◌, ◌+◌, arith, length, subst, sym}
use Rattle.relay_rules.specs.Kept.{AreNumbered, LinksKept, Represents}
use Rattle.relay_rules.proofs.Numbering.{numbered_more}
use Rattle.relay_rules.proofs.Routes.{opens}
use Rattle.relay_rules.proofs.links.Links.open.Goals as goal

pub add-requires : goal.add-requires
add-requires c =
    let few = subst (λ (v : LinksKept). length v.links < 32) (sym c.self.view_is) c.requires.few in
    let e = c.self.inside.links.ok in
    omega (arith, few, e, c.self.invariant.1)

pub overflow_add-self : goal.overflow_add-self
overflow_add-self c = let few = subst (λ (v : LinksKept). v.given + 1 < 18446744073709551616) (sym c.self.view_is) c.requires.numbers in omega (arith, few)

pub invariant_of-self : goal.invariant_of-self
invariant_of-self c =
    let inside = c.self.inside in
    let few = subst (λ (v : LinksKept). length v.links < 32) (sym c.self.view_is) c.requires.few in
    let e = inside.links.ok in
    let a = c.add.ensures in
    (omega (arith, few, e, a.len), omega (arith, a.room, c.self.invariant.1), subst (AreNumbered (inside.given + 1)) (sym a.items) (numbered_more inside.given c.args.port inside.links.items c.requires.from c.requires.to c.self.invariant.2))

pub returns-clause-state : goal.returns-clause-state
returns-clause-state c = λ state r.
    let inside = c.self.inside in
    let view : LinksKept = record { given = inside.given; links = inside.links.items; words = inside.table; kept = inside.stamps } in
    opens view c.add.new.links.items c.open.new.self c.args.port state c.add.ensures.items c.open.ensures (subst (λ (v : LinksKept). Represents v state) (sym c.self.view_is) r)
