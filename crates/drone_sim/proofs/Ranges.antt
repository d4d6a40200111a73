-- What a drone keeps stays in range.
use Rattle.std.proofs.Common.{◌≡◌, ℕ, zero, suc, ◌+◌, ◌<◌, Bool, true, false, ◌&&◌, nat_lt, List, [], ◌∷◌, length, Option, Some, subst, arith, ℤ}
use Rattle.std.specs.Prelude.{◌==◌, max, slice_get, FitsSigned}
use Rattle.std.specs.Int.{w32}
use Rattle.std.proofs.lemmas.Int.{ints, clamps}
use Rattle.std.proofs.lemmas.List.Elements.{All-head, All-tail}
use Rattle.plan_items.specs.declared.items.Item.{Item}
use Rattle.plan_items.specs.declared.actions.Action.{Action}
use Rattle.plan_items.specs.declared.actions.Action.TheVariants.{Arm, Disarm, Start, Return}
use Rattle.plan_items.specs.Validation.{goes_to_place}
use Rattle.drone_sim.specs.declared.courses.Course.TheVariants.{Disarmed, Resting, Flying, Returning}
use Rattle.drone_sim.specs.Moves.{towards, moved}
use Rattle.drone_sim.specs.declared.points.Point.{Point}
use Rattle.drone_sim.specs.declared.courses.Course.{Course}
use Rattle.drone_sim.specs.Sim.{SimState, new_sim, beyond, ends_flight, has_item, location_of, target_of, sim_tick, acts, changes, course_by, stopped, arms, turns, is_armed}
use Rattle.drone_sim.specs.Laws.{PointInRange, LocationsInRange, CourseInRange, SimInRange, SimTickInRange}
use Rattle.drone_sim.proofs.Ticks.{by_test, by_tick}

both : (a b : Bool) → (a && b) ≡ true → b ≡ true
both true b h = h
both false b h = absurd (cc)

next_fits : (items : List Item) (number : ℕ) (item : Item) → CourseInRange (beyond items number item)
next_fits items number item =
    by_test CourseInRange (ends_flight item.command) _ _ (λ _. tt) (λ _.
    by_test CourseInRange (has_item items (number + 1)) _ _ (λ has. below (number + 1) (both (nat_lt (number + 1) (length items)) _ has)) (λ _. tt))
  where
    below : (n : ℕ) → nat_lt n 65536 ≡ true → n < 65536
    below n h = grind arith

armed_fits : (course : Course) → CourseInRange course → CourseInRange (arms course)
armed_fits Disarmed h = tt
armed_fits Resting h = h
armed_fits (Flying number) h = h
armed_fits Returning h = h

turned_fits : (new course : Course) → CourseInRange new → CourseInRange (turns new course)
turned_fits new course h = by_test CourseInRange (is_armed course) _ _ (λ _. h) (λ _. tt)

pub new_fits : (home : Point) → PointInRange home → SimInRange (new_sim home)
new_fits home h = record { home = h; position = h; course = tt; captures = omega arith }

pub acts_fit : (s : SimState) (action : Action) → SimInRange s → SimInRange (acts s action)
acts_fit s action h = record { home = h.home; position = h.position; course = told action; captures = h.captures }
  where
    told : (a : Action) → CourseInRange (course_by a s.course)
    told Arm = armed_fits s.course h.course
    told Disarm = tt
    told Start = turned_fits (Flying 0) s.course (omega arith)
    told Return = turned_fits Returning s.course tt

pub changes_fit : (s : SimState) → SimInRange s → SimInRange (changes s)
changes_fit s h = record { home = h.home; position = h.position; course = told s.course h.course; captures = h.captures }
  where
    told : (c : Course) → CourseInRange c → CourseInRange (stopped c)
    told Disarmed h = h
    told Resting h = h
    told (Flying number) h = tt
    told Returning h = h

towards_fits : (step : ℕ) (from target : ℤ) → FitsSigned w32 from → FitsSigned w32 target → FitsSigned w32 (towards step from target)
towards_fits step from target a b = omega (arith, ints, clamps, a, b)

moved_fits : (step : ℕ) (from target : Point) → PointInRange from → PointInRange target → PointInRange (moved step from target)
moved_fits step from target a b = record { x = towards_fits step from.x target.x a.x b.x; y = towards_fits step from.y target.y a.y b.y }

same_point : (a b : Point) → Some a ≡ Some b → PointInRange a → PointInRange b
same_point a b e h = let same : a ≡ b = cc in subst PointInRange same h

-- where an item sends a drone
target_fits : (home : Point) (item : Item) (target : Point) → PointInRange home → PointInRange (location_of item) → target_of home item ≡ Some target → PointInRange target
target_fits home item target at_home there =
    by_test (λ (to : Option Point). to ≡ Some target → PointInRange target) (goes_to_place item.command) _ _ (λ _ e. same_point (location_of item) target e there) (λ _.
    by_test (λ (to : Option Point). to ≡ Some target → PointInRange target) (item.command == 20) _ _ (λ _ e. same_point home target e at_home) (λ _ e. absurd (cc)))

location_fits : (items : List Item) (k : ℕ) (item : Item) → LocationsInRange items → slice_get items k ≡ Some item → PointInRange (location_of item)
location_fits [] k item h e = absurd (cc)
location_fits (x ∷ xs) zero item h e = let same : x ≡ item = cc in subst (λ (i : Item). PointInRange (location_of i)) same (All-head (λ (i : Item). PointInRange (location_of i)) x xs h)
location_fits (x ∷ xs) (suc k) item h e = location_fits xs k item (All-tail (λ (i : Item). PointInRange (location_of i)) x xs h) e

pub ticks_fit : (s : SimState) (items : List Item) (step : ℕ) → SimInRange s → LocationsInRange items → SimTickInRange (sim_tick s items step)
ticks_fit s items step range locations =
    by_tick (λ a t. CourseInRange a.course → SimTickInRange t) s items step (record {
      rest = λ course h. record { sim = record { home = range.home; position = range.position; course = h; captures = range.captures }; reached = tt };
      moves = λ number item target e f h. record { sim = record { home = range.home; position = gone number item target e f; course = h; captures = range.captures }; reached = tt };
      reaches = λ number item target e f h. record { sim = record { home = range.home; position = gone number item target e f; course = next_fits items number item; captures = range.captures }; reached = h };
      captures = λ number item h. record { sim = record { home = range.home; position = range.position; course = next_fits items number item; captures = omega arith }; reached = h };
      leaves = λ h. record { sim = record { home = range.home; position = moved_fits (max step 1) s.position s.home range.position range.home; course = tt; captures = range.captures }; reached = tt };
      arrives = λ h. record { sim = record { home = range.home; position = moved_fits (max step 1) s.position s.home range.position range.home; course = tt; captures = range.captures }; reached = tt };
    }) range.course
  where
    gone : (number : ℕ) (item : Item) (target : Point) → slice_get items number ≡ Some item → target_of s.home item ≡ Some target → PointInRange (moved (max step 1) s.position target)
    gone number item target e f =
        moved_fits (max step 1) s.position target range.position (target_fits s.home item target range.home (location_fits items number item locations e) f)
