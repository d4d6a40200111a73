use Rattle.std.proofs.Common.{◌<◌, ◌≤◌, ◌∙◌, List, Bool, true, arith, length, ap, subst, sym}
use Rattle.mav_names.specs.declared.names.Name.{Name}
use Rattle.mav_sign.specs.Kept.{Kept}
use Rattle.relay_rules.specs.States.{heard}
use Rattle.relay_rules.specs.Kept.{LinksKept, Represents, AreNumbered}
use Rattle.relay_rules.specs.Ways.{Chooses}
use Rattle.relay_rules.specs.declared.links.OpenLink.{OpenLink}
use Rattle.relay_rules.proofs.Routes.{goes, hears_admitted, some_not_none}
use Rattle.relay_rules.proofs.links.Links.send.Goals as goal

pub chosen-ways-requires-clause-few : goal.chosen-ways-requires-clause-few
chosen-ways-requires-clause-few c =
    let same = ap length c.deref.ensures.value in
    let e = c.self.inside.links.ok in
    omega (arith, same, e, c.self.invariant.0)

pub chosen-ways-requires-clause-ports : goal.chosen-ways-requires-clause-ports
chosen-ways-requires-clause-ports c =
    let numbered = subst (AreNumbered c.self.inside.given) (sym c.deref.ensures.value) c.self.invariant.2 in
    numbered.ports

pub overflow_cast-index : goal.overflow_cast-index
overflow_cast-index c =
    let within = subst (λ (v : LinksKept). c.args.index < length v.links) (sym c.self.view_is) c.requires.within in
    let e = c.self.inside.links.ok in
    omega (arith, within, e, c.self.invariant.0)

pub learn-requires : goal.learn-requires
learn-requires c =
    let within = subst (λ (v : LinksKept). c.args.index < length v.links) (sym c.self.view_is) c.requires.within in
    let e = c.self.inside.links.ok in
    omega (arith, within, e, c.self.invariant.0)

pub returns-clause-ways : goal.returns-clause-ways
returns-clause-ways c = λ state r k within.
    let inside = c.self.inside in
    let view : LinksKept = record { given = inside.given; links = inside.links.items; words = inside.table; kept = inside.stamps } in
    let own = subst (λ (v : LinksKept). c.args.index < length v.links) (sym c.self.view_is) c.requires.within in
    let e = inside.links.ok in
    let few : length inside.links.items ≤ 32 = omega (arith, e, c.self.invariant.0) in
    let packet = c.args.frame.now in
    let behind = c.behind-behind.result.bits in
    let ways = c.chosen-ways.result.bits in
    let signed = c.has_block.result in
    let chooses = subst (λ (l : List OpenLink). Chooses l behind c.args.index signed c.args.rules.now.plain ways) c.deref.ensures.value
    (subst (λ (p : List Bool). Chooses c.deref.result.now behind c.args.index signed p ways) c.plain.ensures c.chosen-ways.ensures) in
    goes c.args.rules.now packet view c.args.index k behind ways c.args.target signed state c.self.invariant.2 own within few c.requires.target (c.has_block.ensures ∙ some_not_none packet.block) c.behind-behind.ensures chooses
    (subst (λ (v : LinksKept). Represents v state) (sym c.self.view_is) r)

pub returns-clause-few : goal.returns-clause-few
returns-clause-few c = λ k l.
    let same = ap length c.deref.ensures.value in
    let view = ap (λ (v : LinksKept). length v.links) c.self.view_is in
    c.chosen-ways.ensures.few k (omega (arith, l, same, view))

pub returns-clause-state : goal.returns-clause-state
returns-clause-state c = λ state r.
    let inside = c.self.inside in
    let view : LinksKept = record { given = inside.given; links = inside.links.items; words = inside.table; kept = inside.stamps } in
    let within = subst (λ (v : LinksKept). c.args.index < length v.links) (sym c.self.view_is) c.requires.within in
    let stands = subst (λ (v : LinksKept). Represents v state) (sym c.self.view_is) r in
    let now : LinksKept = record { given = inside.given; links = inside.links.items; words = c.learn.new.self; kept = inside.stamps } in
    let learned = hears_admitted view c.learn.new.self c.args.index c.from.result state within c.learn.ensures stands in
    subst (λ (from : Name). Represents now (heard c.args.index true from c.args.self.now.kept state)) c.from.ensures
    (subst (λ (kept : Kept). Represents now (heard c.args.index true c.from.result kept state)) (ap (λ (v : LinksKept). v.kept) c.self.view_is) learned)
