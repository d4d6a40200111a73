use Rattle.std.proofs.Common.{◌≡◌, ◌∙◌, ℕ, true, List, [], ◌++◌, length, take, drop, sym, ap, subst, arith, length-drop, append-nil, refl, ◌∷◌}
use Rattle.std.proofs.lemmas.List.{take_all}
use Rattle.std.specs.declared.result.Result.{Result}
use Rattle.mav_links.specs.Links.{LinkState}
use Rattle.mav_router.specs.declared.ends.RouteEnd.{RouteEnd}
use Rattle.mav_router.specs.declared.ends.RouteFault.{RouteFault}
use Rattle.mav_router.specs.Journal.{Rules, rules_of}
use Rattle.mav_router.specs.Routed.{HasEnded}
use Rattle.mav_router.proofs.routing.route_one.Goals as goal

-- a whole slice that was lent
none_left : {A : Type 0} (items : List A) (n : ℕ) → n ≡ length items → drop n items ≡ []
none_left items n e = empty (drop n items) (omega (arith, length-drop n items, e))
  where
    empty : {B : Type 0} (l : List B) → length l ≡ 0 → l ≡ []
    empty [] h = refl
    empty (x ∷ xs) h = absurd (omega (arith, h))

given_back : {A : Type 0} (items now : List A) (len : ℕ) → length now ≡ length items → len ≡ length items → now ≡ take len (now ++ drop (length now) items)
given_back items now len same whole =
    sym (ap (λ (l : List _). take len (now ++ l)) (none_left items (length now) same) ∙ (ap (take len) (append-nil now) ∙ take_all len now (omega (arith, same, whole))))

-- what is said of the links that were lent is said of all
ended_there : {A : Type 0} (result : Result RouteEnd RouteFault) (state : A → LinkState) (rules : ℕ → Rules) (most : ℕ) (lent items now after : List A) → lent ≡ items → now ≡ after → HasEnded result true state (rules (length lent)) most lent now → HasEnded result true state (rules (length items)) most items after
ended_there {A} result state rules most lent items now after whole back h =
    subst (λ (l : List A). HasEnded result true state (rules (length l)) most l after) whole (subst (λ (m : List A). HasEnded result true state (rules (length lent)) most lent m) back h)

pub returns : goal.returns
returns g c =
    let items = c.args.ports.now.items in
    let now = c.route_links.new.links in
    ended_there c.route_links.result _ (λ (n : ℕ). rules_of c.args.key.now c.args.known.now c.args.plan.plain n) c.args.plan.turns c.as_mut_slice.result.now items now _
    c.as_mut_slice.ensures.value (given_back items now c.args.ports.now.len (omega (arith, c.route_links.auto.links, c.as_mut_slice.ensures.len, c.args.ports.now.ok.0)) (omega (arith, c.args.ports.now.ok.0)))
    c.route_links.ensures
