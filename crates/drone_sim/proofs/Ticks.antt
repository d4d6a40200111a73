-- What one tick may be, case by case, and what holds in each.
use Rattle.std.proofs.Common.{◌≡◌, ◌⊎◌, ℕ, ◌+◌, ◌≤◌, Bool, true, false, if◌then◌else◌, List, Option, Some, None, inl, inr, refl, ap, subst, arith}
use Rattle.std.specs.Prelude.{◌==◌, max, slice_get}
use Rattle.plan_items.specs.declared.items.Item.{Item}
use Rattle.drone_sim.specs.declared.courses.Course.TheVariants.{Disarmed, Resting, Flying, Returning}
use Rattle.drone_sim.specs.Moves.{moved, is_at}
use Rattle.drone_sim.specs.declared.points.Point.{Point}
use Rattle.drone_sim.specs.declared.courses.Course.{Course}
use Rattle.drone_sim.specs.Sim.{SimState, SimTick, stays, beyond, ends_flight, has_item, captures_at, does_item, flies, target_of, tick_on, sim_tick}
use Rattle.drone_sim.specs.Laws.{SimInRange}

pub by_test : {A : Type 0} (P : A → Type 0) (b : Bool) (x y : A) → (b ≡ true → P x) → (b ≡ false → P y) → P (if b then x else y)
by_test P true x y f g = f refl
by_test P false x y f g = g refl

-- the drone on another course
abbrev on : SimState → Course → SimState
on s course = record s { course = course }

-- what must be shown of a tick
pub record Cases (P : SimState → SimTick → Type 0) (s : SimState) (items : List Item) (step : ℕ) : Type 0 where
  pub rest : (course : Course) → P (on s course) (stays (on s course))
  pub moves : (number : ℕ) (item : Item) (target : Point) → slice_get items number ≡ Some item → target_of s.home item ≡ Some target → P (on s (Flying number)) (stays (record s { course = Flying number; position = moved step s.position target }))
  pub reaches : (number : ℕ) (item : Item) (target : Point) → slice_get items number ≡ Some item → target_of s.home item ≡ Some target → P (on s (Flying number)) (record { sim = record s { position = moved step s.position target; course = beyond items number item }; reached = Some number; captured = false })
  pub captures : (number : ℕ) (item : Item) → P (on s (Flying number)) (captures_at (on s (Flying number)) items number item)
  pub leaves : P (on s Returning) (stays (record s { course = Returning; position = moved step s.position s.home }))
  pub arrives : P (on s Returning) (stays (record s { course = Disarmed; position = moved step s.position s.home }))

module _ (P : SimState → SimTick → Type 0) (s : SimState) (items : List Item) where
  at_item : (step number : ℕ) (item : Item) (target : Option Point) → slice_get items number ≡ Some item → target_of s.home item ≡ target → Cases P s items step → P (on s (Flying number)) (does_item (on s (Flying number)) items step number item target)
  at_item step number item (Some target) e f h =
      by_test (P (on s (Flying number))) (is_at (moved step s.position target) target) _ _ (λ _. h.reaches number item target e f) (λ _. h.moves number item target e f)
  at_item step number item None e f h =
      by_test (P (on s (Flying number))) (item.command == 2000) _ _ (λ _. h.captures number item) (λ _. h.rest (Flying number))

  in_flight : (step number : ℕ) (item : Option Item) → slice_get items number ≡ item → Cases P s items step → P (on s (Flying number)) (flies (on s (Flying number)) items step number item)
  in_flight step number None e h = h.rest (Flying number)
  in_flight step number (Some item) e h = at_item step number item (target_of s.home item) e refl h

  on_course : (step : ℕ) (course : Course) → Cases P s items step → P (on s course) (tick_on (on s course) items step course)
  on_course step Disarmed h = h.rest Disarmed
  on_course step Resting h = h.rest Resting
  on_course step (Flying number) h = in_flight step number (slice_get items number) refl h
  on_course step Returning h =
      by_test (P (on s Returning)) (is_at (moved step s.position s.home) s.home) _ _ (λ _. h.arrives) (λ _. h.leaves)

  -- it holds of a tick
  pub by_tick : (step : ℕ) → Cases P s items (max step 1) → P s (sim_tick s items step)
  by_tick step h = on_course (max step 1) s.course h

pub home_stays : (s : SimState) (items : List Item) (step : ℕ) → (sim_tick s items step).sim.home ≡ s.home
home_stays s items step = by_tick (λ a t. t.sim.home ≡ s.home) s items step (record {
  rest = λ course. refl;
  moves = λ number item target e f. refl;
  reaches = λ number item target e f. refl;
  captures = λ number item. refl;
  leaves = refl;
  arrives = refl;
})

-- ---- pictures

pub never_falls : (s : SimState) (items : List Item) (step : ℕ) → SimInRange s → s.captures ≤ (sim_tick s items step).sim.captures
never_falls s items step range =
    let same : s.captures ≤ s.captures = omega arith in
    by_tick (λ a t. s.captures ≤ t.sim.captures) s items step (record {
      rest = λ course. same;
      moves = λ number item target e f. same;
      reaches = λ number item target e f. same;
      captures = λ number item. omega (arith, range.captures);
      leaves = same;
      arrives = same;
    })

pub at_most_one : (s : SimState) (items : List Item) (step : ℕ) → (sim_tick s items step).sim.captures ≤ s.captures + 1
at_most_one s items step =
    let same : s.captures ≤ s.captures + 1 = omega arith in
    by_tick (λ a t. t.sim.captures ≤ s.captures + 1) s items step (record {
      rest = λ course. same;
      moves = λ number item target e f. same;
      reaches = λ number item target e f. same;
      captures = λ number item. omega arith;
      leaves = same;
      arrives = same;
    })

pub same_unless : (s : SimState) (items : List Item) (step : ℕ) → (sim_tick s items step).captured ≡ false → (sim_tick s items step).sim.captures ≡ s.captures
same_unless s items step =
    by_tick (λ a t. t.captured ≡ false → t.sim.captures ≡ s.captures) s items step (record {
      rest = λ course none. refl;
      moves = λ number item target e f none. refl;
      reaches = λ number item target e f none. refl;
      captures = λ number item none. absurd (cc);
      leaves = λ none. refl;
      arrives = λ none. refl;
    })

-- ---- items, one after another

pub waits : (s : SimState) (items : List Item) (step number : ℕ) → s.course ≡ Flying number → (sim_tick s items step).reached ≡ None → (sim_tick s items step).sim.course ≡ s.course
waits s items step number =
    by_tick (λ a t. a.course ≡ Flying number → t.reached ≡ None → t.sim.course ≡ a.course) s items step (record {
      rest = λ course is none. refl;
      moves = λ n item target e f is none. refl;
      reaches = λ n item target e f is none. absurd (cc);
      captures = λ n item is none. absurd (cc);
      leaves = λ is none. refl;
      arrives = λ is none. absurd (cc);
    })

abbrev GoesOn : ℕ → Course → Type 0
GoesOn number course = (course ≡ Flying (number + 1)) ⊎ ((course ≡ Resting) ⊎ (course ≡ Disarmed))

next_course : (items : List Item) (number : ℕ) (item : Item) → GoesOn number (beyond items number item)
next_course items number item =
    by_test (GoesOn number) (ends_flight item.command) _ _ (λ _. inr (inr refl)) (λ _.
    by_test (GoesOn number) (has_item items (number + 1)) _ _ (λ _. inl refl) (λ _. inr (inl refl)))

same_number : (m n : ℕ) → Some m ≡ Some n → m ≡ n
same_number m n e = cc

reached_on : (m n : ℕ) (course : Course) → GoesOn m course → Some m ≡ Some n → (Flying m ≡ Flying n) × GoesOn n course
reached_on m n course h e = let same = same_number m n e in (ap Flying same, subst (λ (k : ℕ). GoesOn k course) same h)

pub goes_on : (s : SimState) (items : List Item) (step number : ℕ) → (sim_tick s items step).reached ≡ Some number → (s.course ≡ Flying number) × GoesOn number (sim_tick s items step).sim.course
goes_on s items step number =
    by_tick (λ a t. t.reached ≡ Some number → (a.course ≡ Flying number) × GoesOn number t.sim.course) s items step (record {
      rest = λ course none. absurd (cc);
      moves = λ n item target e f none. absurd (cc);
      reaches = λ n item target e f is. reached_on n number (beyond items n item) (next_course items n item) is;
      captures = λ n item is. reached_on n number (beyond items n item) (next_course items n item) is;
      leaves = λ none. absurd (cc);
      arrives = λ none. absurd (cc);
    })
