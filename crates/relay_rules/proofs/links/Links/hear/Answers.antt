use Rattle.std.proofs.Common.{◌∙◌, ◌<◌, ◌≡◌, Bool, List, ℕ, arith, length, ap, sym, subst}
use Rattle.mav_sign.specs.History.{is_admitted}
use Rattle.mav_sign.specs.Kept.{Kept}
use Rattle.link_table.specs.Routing.{has_port}
use Rattle.mav_router.specs.Admitting.{IsVerdictBy}
use Rattle.relay_rules.specs.Kept.{LinksKept, Represents}
use Rattle.relay_rules.specs.States.{RelayState, heard, link_at}
use Rattle.relay_rules.proofs.Routes.{port_is, with_kept}
use Rattle.relay_rules.proofs.links.Links.hear.Goals as goal

pub route-ways-requires-clause-within : goal.route-ways-requires-clause-within
route-ways-requires-clause-within c = subst (λ (v : LinksKept). c.args.index < length v.links) (sym c.self.view_is) c.requires.within

pub returns-clause-verdict : goal.returns-clause-verdict
returns-clause-verdict c = λ state r.
    let packet = c.args.frame.now in
    let answer = c.verdict-admit.result in
    let rules = c.args.rules.now in
    let old = c.args.self.now.kept in
    let new = c.route-ways.new.self.kept in
    let port = port_is c.args.self.now c.args.index c.link-link.result state c.requires.within c.link-link.ensures.link r in
    let open_is : c.has-is_open.result ≡ has_port rules.plain (link_at state.links c.args.index).port =
    c.has-is_open.ensures ∙ (λ i. has_port (c.plain.ensures i) (port i)) in
    subst (λ (k : List ℕ). IsVerdictBy k (has_port rules.plain (link_at state.links c.args.index).port) old new packet answer) c.key.ensures
    (subst (λ (b : Bool). IsVerdictBy c.key.result.now b old new packet answer) open_is
    (subst (λ (k : Kept). IsVerdictBy c.key.result.now c.has-is_open.result k new packet answer) (ap (λ (v : LinksKept). v.kept) c.self.view_is)
    (subst (λ (k : Kept). IsVerdictBy c.key.result.now c.has-is_open.result c.self.inside.stamps k packet answer) (sym c.route-ways.ensures.kept) c.verdict-admit.ensures.kept)))

pub returns-clause-ways : goal.returns-clause-ways
returns-clause-ways c = λ state r k within.
    let inside = c.self.inside in
    let view : LinksKept = record { given = inside.given; links = inside.links.items; words = inside.table; kept = inside.stamps } in
    let kept = c.verdict-admit.new.stamps in
    let now : RelayState = record { given = state.given; links = state.links; kept = kept } in
    c.route-ways.ensures.ways now (with_kept view kept state (subst (λ (v : LinksKept). Represents v state) (sym c.self.view_is) r)) k within

pub returns-clause-few : goal.returns-clause-few
returns-clause-few c = λ k l. let same = ap (λ (v : LinksKept). length v.links) c.self.view_is in c.route-ways.ensures.few k (omega (arith, l, same))

pub returns-clause-state : goal.returns-clause-state
returns-clause-state c = λ state r.
    let inside = c.self.inside in
    let view : LinksKept = record { given = inside.given; links = inside.links.items; words = inside.table; kept = inside.stamps } in
    let kept = c.verdict-admit.new.stamps in
    let now : RelayState = record { given = state.given; links = state.links; kept = kept } in
    let is = c.route-ways.ensures.state now (with_kept view kept state (subst (λ (v : LinksKept). Represents v state) (sym c.self.view_is) r)) in
    subst (λ (k : Kept). Represents c.route-ways.new.self (heard c.args.index (is_admitted c.verdict-admit.result) c.args.frame.now.from k state)) (sym c.route-ways.ensures.kept) is
