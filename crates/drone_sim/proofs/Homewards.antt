-- A drone that returns arrives.
use Rattle.std.proofs.Common.{◌≡◌, ℕ, zero, suc, ◌+◌, ◌*◌, ◌<◌, Bool, true, false, ◌&&◌, List, refl, sym, ap, ◌∙◌, subst, arith, ℤ}
use Rattle.std.specs.Prelude.{max}
use Rattle.std.specs.Ordering.{int_eq}
use Rattle.std.proofs.lemmas.Int.{ints, clamps}
use Rattle.plan_items.specs.declared.items.Item.{Item}
use Rattle.drone_sim.specs.declared.points.Point.{Point}
use Rattle.drone_sim.specs.declared.courses.Course.{Course}
use Rattle.drone_sim.specs.declared.courses.Course.TheVariants.{Disarmed, Returning}
use Rattle.drone_sim.specs.Moves.{towards, moved, is_at}
use Rattle.drone_sim.specs.Sim.{SimState, SimTick}
use Rattle.drone_sim.specs.Laws.{ticks, AreWithin}
use Rattle.drone_sim.proofs.Ticks.{by_test}

-- a step less is left
nearer : (way step : ℕ) (a b : ℤ) → AreWithin (step + way) a b → AreWithin way (towards step a b) b
nearer way step a b h = (omega (arith, ints, clamps, h.0, h.1), omega (arith, ints, clamps, h.0, h.1))

one_less : (n step : ℕ) (a b : ℤ) → AreWithin (suc n * step) a b → AreWithin (n * step) (towards step a b) b
one_less n step a b h =
    let e : suc n * step ≡ step + n * step = omega arith in
    nearer (n * step) step a b (subst (λ (way : ℕ). AreWithin way a b) e h)

-- nothing is left
equal : (a b : ℤ) → AreWithin 0 a b → int_eq a b ≡ true
equal a b h = grind (arith, ints)

same : (a b : ℤ) → int_eq a b ≡ true → a ≡ b
same a b h = grind (arith, ints)

both : (a b : Bool) → a ≡ true → b ≡ true → (a && b) ≡ true
both a b e f = rw (e, f) refl

parts : (a b : Bool) → (a && b) ≡ true → (a ≡ true) × (b ≡ true)
parts true true h = (refl, refl)
parts true false h = absurd (cc)
parts false b h = absurd (cc)

arrived : (p q : Point) → AreWithin 0 p.x q.x → AreWithin 0 p.y q.y → is_at p q ≡ true
arrived p q x y = both (int_eq p.x q.x) (int_eq p.y q.y) (equal p.x q.x x) (equal p.y q.y y)

same_point : (p q : Point) → is_at p q ≡ true → p ≡ q
same_point p q h =
    let e = parts (int_eq p.x q.x) (int_eq p.y q.y) h in
    λ i. record { x = same p.x q.x e.0 i; y = same p.y q.y e.1 i }

not_last : (n step : ℕ) (p q : Point) → AreWithin (n * step) p.x q.x → AreWithin (n * step) p.y q.y → is_at p q ≡ false → 0 < n
not_last zero step p q x y away =
    let none : 0 * step ≡ 0 = omega arith in
    let here = arrived p q (subst (λ (way : ℕ). AreWithin way p.x q.x) none x) (subst (λ (way : ℕ). AreWithin way p.y q.y) none y) in
    absurd (let t : true ≡ false = sym here ∙ away in cc)
not_last (suc n) step p q x y away = omega arith

module _ (items : List Item) (step : ℕ) where
  rests : (n : ℕ) (s : SimState) → ticks n (record s { course = Disarmed }) items step ≡ record s { course = Disarmed }
  rests zero s = refl
  rests (suc n) s = rests n s

  homewards : (n : ℕ) (s : SimState) → 0 < n → AreWithin (n * max step 1) s.position.x s.home.x → AreWithin (n * max step 1) s.position.y s.home.y → ticks n (record s { course = Returning }) items step ≡ record s { position = s.home; course = Disarmed }
  homewards zero s some x y = absurd (omega (arith, some))
  homewards (suc n) s some x y =
      let next = moved (max step 1) s.position s.home in
      let near_x = one_less n (max step 1) s.position.x s.home.x x in
      let near_y = one_less n (max step 1) s.position.y s.home.y y in
      by_test (λ (t : SimTick). ticks n t.sim items step ≡ record s { position = s.home; course = Disarmed }) (is_at next s.home) _ _
      (λ here. rests n (record s { position = next }) ∙ ap (λ (p : Point). record s { position = p; course = Disarmed }) (same_point next s.home here))
      (λ away. homewards n (record s { position = next }) (not_last n (max step 1) next s.home near_x near_y away) near_x near_y)

-- the same of a drone on its way home
pub home_at_last : (s : SimState) (items : List Item) (step n : ℕ) → s.course ≡ Returning → 0 < n → AreWithin (n * max step 1) s.position.x s.home.x → AreWithin (n * max step 1) s.position.y s.home.y → ticks n s items step ≡ record s { position = s.home; course = Disarmed }
home_at_last s items step n e some x y =
    subst (λ (c : Course). ticks n (record s { course = c }) items step ≡ record s { position = s.home; course = Disarmed }) (sym e) (homewards items step n s some x y)
