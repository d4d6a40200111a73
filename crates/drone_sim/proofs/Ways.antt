-- A tick moves a drone towards its target, and never past it.
use Rattle.std.proofs.Common.{◌≡◌, ℕ, List, Option, Some, None, refl, subst, arith, ℤ}
use Rattle.std.specs.Prelude.{◌==◌, max, slice_get}
use Rattle.std.proofs.lemmas.Int.{ints, clamps}
use Rattle.plan_items.specs.declared.items.Item.{Item}
use Rattle.drone_sim.specs.declared.courses.Course.TheVariants.{Disarmed, Resting, Flying, Returning}
use Rattle.drone_sim.specs.Moves.{towards, moved, is_at}
use Rattle.drone_sim.specs.declared.points.Point.{Point}
use Rattle.drone_sim.specs.declared.courses.Course.{Course}
use Rattle.drone_sim.specs.Sim.{SimState, SimTick, does_item, flies, target_of, tick_on, sim_tick}
use Rattle.drone_sim.specs.Laws.{target_at, target_on, target_now, IsBetween, IsOnItsWay}
use Rattle.drone_sim.proofs.Ticks.{by_test}

between : (step : ℕ) (from target : ℤ) → IsBetween from target (towards step from target)
between step from target = grind (arith, ints, clamps)

on_its_way : (step : ℕ) (from target : Point) → IsOnItsWay from target (moved step from target)
on_its_way step from target = record { x = between step from.x target.x; y = between step from.y target.y }

same_target : (a b : Point) → Some a ≡ Some b → a ≡ b
same_target a b e = cc

module _ (s : SimState) (items : List Item) (step : ℕ) where
  gone : (target other : Point) → Some target ≡ Some other → IsOnItsWay s.position other (moved step s.position target)
  gone target other e = subst (λ (p : Point). IsOnItsWay s.position p (moved step s.position target)) (same_target target other e) (on_its_way step s.position target)

  at_item : (number : ℕ) (item : Item) (to : Option Point) (target : Point) → to ≡ Some target → IsOnItsWay s.position target (does_item s items step number item to).sim.position
  at_item number item None target e = absurd (cc)
  at_item number item (Some to) target e =
      by_test (λ (t : SimTick). IsOnItsWay s.position target t.sim.position) (is_at (moved step s.position to) to) _ _ (λ _. gone to target e) (λ _. gone to target e)

  in_flight : (number : ℕ) (item : Option Item) (target : Point) → target_at s.home item ≡ Some target → IsOnItsWay s.position target (flies s items step number item).sim.position
  in_flight number None target e = absurd (cc)
  in_flight number (Some item) target e = at_item number item (target_of s.home item) target e

  on_course : (course : Course) (target : Point) → target_on s.home items course ≡ Some target → IsOnItsWay s.position target (tick_on s items step course).sim.position
  on_course Disarmed target e = absurd (cc)
  on_course Resting target e = absurd (cc)
  on_course (Flying number) target e = in_flight number (slice_get items number) target e
  on_course Returning target e =
      by_test (λ (t : SimTick). IsOnItsWay s.position target t.sim.position) (is_at (moved step s.position s.home) s.home) _ _ (λ _. gone s.home target e) (λ _. gone s.home target e)

  no_item : (number : ℕ) (item : Item) (to : Option Point) → to ≡ None → (does_item s items step number item to).sim.position ≡ s.position
  no_item number item None e = by_test (λ (t : SimTick). t.sim.position ≡ s.position) (item.command == 2000) _ _ (λ _. refl) (λ _. refl)
  no_item number item (Some to) e = absurd (cc)

  no_flight : (number : ℕ) (item : Option Item) → target_at s.home item ≡ None → (flies s items step number item).sim.position ≡ s.position
  no_flight number None e = refl
  no_flight number (Some item) e = no_item number item (target_of s.home item) e

  no_course : (course : Course) → target_on s.home items course ≡ None → (tick_on s items step course).sim.position ≡ s.position
  no_course Disarmed e = refl
  no_course Resting e = refl
  no_course (Flying number) e = no_flight number (slice_get items number) e
  no_course Returning e = absurd (cc)

pub goes : (s : SimState) (items : List Item) (step : ℕ) (target : Point) → target_now s items ≡ Some target → IsOnItsWay s.position target (sim_tick s items step).sim.position
goes s items step target e = on_course s items (max step 1) s.course target e

pub rests : (s : SimState) (items : List Item) (step : ℕ) → target_now s items ≡ None → (sim_tick s items step).sim.position ≡ s.position
rests s items step e = no_course s items (max step 1) s.course e
