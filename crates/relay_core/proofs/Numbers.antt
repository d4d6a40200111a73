-- The numbers of the links of a run.
use Rattle.std.proofs.Common.{◌≡◌, ◌∙◌, ◌<◌, ◌≤◌, ◌⊎◌, inl, inr, ℕ, zero, suc, ◌+◌, ◌==◌, ◌||◌, ◌&&◌, Bool, true, false, if◌then◌else◌, List, [], ◌∷◌, ◌++◌, set, slice_get, Some, refl, sym, ap, subst, arith}
use Rattle.std.specs.List.{list_any, remove}
use Rattle.std.proofs.lemmas.Grind.{common_steps}
use Rattle.std.proofs.lemmas.Option.{slice_get_within}
use Rattle.mav_frame.specs.Packet.{Packet}
use Rattle.mav_sign.specs.declared.admission.Admit.{Admit}
use Rattle.mav_sign.specs.History.{is_admitted}
use Rattle.mav_sign.specs.Kept.{Kept}
use Rattle.mav_router.specs.Journal.{Rules}
use Rattle.relay_rules.specs.States.{LinkState, RelayState, link_at, opened_link, taught}
use Rattle.relay_rules.specs.Steps.{Event, opens, closes, hears, refuses, forgets}
use Rattle.relay_rules.proofs.Numbering.{got_more, got_less}
use Rattle.relay_core.specs.Flows.{Course, Goes, GoesBy, link_numbered, nothing_yet, passes, reaches}
use Rattle.relay_core.specs.RelayRuns.{IsRun, RelayRun}
use Rattle.relay_core.proofs.Places.{nothing_there, same_some}

-- the numbers of open links rise, from 1, and none is above how many were given
pub record Rising (given : ℕ) (links : List LinkState) : Type 0 where
  pub rise : (i j : ℕ) (a b : LinkState) → i < j → slice_get links i ≡ Some a → slice_get links j ≡ Some b → a.number < b.number
  pub some : (i : ℕ) (a : LinkState) → slice_get links i ≡ Some a → 0 < a.number
  pub most : (i : ℕ) (a : LinkState) → slice_get links i ≡ Some a → a.number ≤ given

rising_more : (given port : ℕ) (links : List LinkState) → Rising given links → Rising (given + 1) (links ++ opened_link (given + 1) port ∷ [])
rising_more given port links r =
    let last = opened_link (given + 1) port in
    record {
      rise = λ i j a b l at there. elim (got_more links last i a at) [
        | inl h ↦ elim (got_more links last j b there) [
          | inl g ↦ r.rise i j a b l h g
          | inr g ↦ let most = r.most i a h in let is = ap (λ (o : LinkState). o.number) g.0 in omega (arith, most, is)
        ]
        | inr h ↦ elim (got_more links last j b there) [
          | inl g ↦ absurd (let w = slice_get_within links j b g in omega (arith, w, l, h.1))
          | inr g ↦ absurd (omega (arith, l, h.1, g.1))
        ]
      ];
      some = λ i a at. elim (got_more links last i a at) [
        | inl h ↦ r.some i a h
        | inr h ↦ let is = ap (λ (o : LinkState). o.number) h.0 in omega (arith, is)
      ];
      most = λ i a at. elim (got_more links last i a at) [
        | inl h ↦ let most = r.most i a h in omega (arith, most)
        | inr h ↦ let is = ap (λ (o : LinkState). o.number) h.0 in omega (arith, is)
      ];
    }

rising_less : (given at : ℕ) (links : List LinkState) → Rising given links → Rising given (remove links at)
rising_less given at links n = record {
  rise = λ i j a b l here there. elim (got_less links at i a here) [
    | inl h ↦ elim (got_less links at j b there) [
      | inl g ↦ n.rise i j a b l h.1 g.1
      | inr g ↦ n.rise i (suc j) a b (omega (arith, l)) h.1 g.1
    ]
    | inr h ↦ elim (got_less links at j b there) [
      | inl g ↦ absurd (omega (arith, h.0, g.0, l))
      | inr g ↦ n.rise (suc i) (suc j) a b (omega (arith, l)) h.1 g.1
    ]
  ];
  some = λ i a here. elim (got_less links at i a here) [ inl h ↦ n.some i a h.1 | inr h ↦ n.some (suc i) a h.1 ];
  most = λ i a here. elim (got_less links at i a here) [ inl h ↦ n.most i a h.1 | inr h ↦ n.most (suc i) a h.1 ];
}

-- a link that was set stands for one with its number
pub was_link : (links : List LinkState) (at k : ℕ) (new link : LinkState) → new.number ≡ (link_at links at).number → slice_get (set links at new) k ≡ Some link → (old : LinkState) × (slice_get links k ≡ Some old) × (old.number ≡ link.number)
was_link [] zero k new link same e = absurd (nothing_there k e)
was_link [] (suc at) k new link same e = absurd (nothing_there k e)
was_link (o ∷ links) zero zero new link same e = (o, refl, sym same ∙ ap (λ (l : LinkState). l.number) (same_some e))
was_link (o ∷ links) zero (suc k) new link same e = (link, e, refl)
was_link (o ∷ links) (suc at) zero new link same e = (o, refl, ap (λ (l : LinkState). l.number) (same_some e))
was_link (o ∷ links) (suc at) (suc k) new link same e = was_link links at k new link same e

rising_set : (given at : ℕ) (links : List LinkState) (new : LinkState) → new.number ≡ (link_at links at).number → Rising given links → Rising given (set links at new)
rising_set given at links new same n = record {
  rise = λ i j a b l here there.
      let g = was_link links at i new a same here in
      let h = was_link links at j new b same there in
      let less = n.rise i j g.0 h.0 l g.1 h.1 in
      omega (arith, less, g.2, h.2);
  some = λ i a here. let g = was_link links at i new a same here in let some = n.some i g.0 g.1 in omega (arith, some, g.2);
  most = λ i a here. let g = was_link links at i new a same here in let most = n.most i g.0 g.1 in omega (arith, most, g.2);
}

pub rising_none : Rising 0 []
rising_none = record {
  rise = λ i j a b l here there. absurd (nothing_there i here);
  some = λ i a here. absurd (nothing_there i here);
  most = λ i a here. absurd (nothing_there i here);
}

one_step : (rules : Rules) (event : Event) (before after : Course) → Goes rules event before after → Rising before.state.given before.state.links → Rising after.state.given after.state.links
one_step rules (opens number port) before after g r =
    subst (λ (s : RelayState). Rising s.given s.links) (sym g.step.state) (rising_more before.state.given port before.state.links r)
one_step rules (closes number) before after g r =
    subst (λ (s : RelayState). Rising s.given s.links) (sym g.step.state) (rising_less before.state.given g.step.index before.state.links r)
one_step rules (hears number packet answer) before after g r =
    subst (λ (s : RelayState). Rising s.given s.links) (sym g.step.state) (rising_set before.state.given g.step.index before.state.links (taught (is_admitted answer) packet.from (link_at before.state.links g.step.index)) refl r)
one_step rules (refuses port packet answer) before after g r =
    subst (λ (n : ℕ). Rising n after.state.links) (sym g.step.given) (subst (λ (l : List LinkState). Rising before.state.given l) (sym g.step.links) r)
one_step rules forgets before after g r =
    subst (λ (n : ℕ). Rising n after.state.links) (sym g.step.given) (subst (λ (l : List LinkState). Rising before.state.given l) (sym g.step.links) r)

steps : (rules : Rules) (events : List Event) (before after : Course) → GoesBy rules events before after → Rising before.state.given before.state.links → Rising after.state.given after.state.links
steps rules [] before after g r = subst (λ (c : Course). Rising c.state.given c.state.links) (sym g) r
steps rules (event ∷ events) before after g r = steps rules events g.0 after g.2 (one_step rules event before g.0 g.1 r)

-- those of a run do
pub run_rises : (rules : Rules) (start : Kept) (run : RelayRun) → IsRun rules start run → Rising run.course.state.given run.course.state.links
run_rises rules start run is = steps rules run.events (nothing_yet start) run.course is rising_none

-- ---- an event more

pub one_more : (rules : Rules) (events : List Event) (event : Event) (first before after : Course) → GoesBy rules events first before → Goes rules event before after → GoesBy rules (events ++ event ∷ []) first after
one_more rules [] event first before after g step = (after, subst (λ (c : Course). Goes rules event c after) g step, refl)
one_more rules (e ∷ events) event first before after g step = (g.0, g.1, one_more rules events event g.0 before after g.2 step)

-- ---- one number, one link

pub one_place : (given : ℕ) (links : List LinkState) → Rising given links → (i j : ℕ) (a b : LinkState) → slice_get links i ≡ Some a → slice_get links j ≡ Some b → a.number ≡ b.number → i ≡ j
one_place given links r i j a b here there e = elim (order i j) [
  | inl l ↦ absurd (let less = r.rise i j a b l here there in omega (arith, less, e))
  | inr g ↦ elim g [
    | inl same ↦ same
    | inr l ↦ absurd (let less = r.rise j i b a l there here in omega (arith, less, e))
  ]
]
  where
    order : (m n : ℕ) → (m < n) ⊎ ((m ≡ n) ⊎ (n < m))
    order m n = grind (arith, common_steps)

eq_is : (m n : ℕ) → m ≡ n → (m == n) ≡ true
eq_is m n e = grind (arith, common_steps)

eq_not : (m n : ℕ) → (m ≡ n → ⊥) → (m == n) ≡ false
eq_not m n e = grind (arith, common_steps)

pub is_eq : (m n : ℕ) → m ≡ n → (m == n) ≡ true
is_eq m n e = eq_is m n e

pub not_eq : (m n : ℕ) → (m ≡ n → ⊥) → (m == n) ≡ false
not_eq m n e = eq_not m n e

-- the first link with a number is the only one
pub numbered_first : (links : List LinkState) (k : ℕ) (link : LinkState) → slice_get links k ≡ Some link → ((j : ℕ) (other : LinkState) → slice_get links j ≡ Some other → other.number ≡ link.number → j ≡ k) → link_numbered link.number links ≡ link
numbered_first [] k link there one = absurd (nothing_there k there)
numbered_first (o ∷ links) zero link there one =
    let e = same_some there in
    ap (λ (b : Bool). if b then o else link_numbered link.number links) (eq_is o.number link.number (ap (λ (l : LinkState). l.number) e)) ∙ e
numbered_first (o ∷ links) (suc k) link there one =
    let apart : o.number ≡ link.number → ⊥ = λ e. let z = one 0 o refl e in omega (arith, z) in
    ap (λ (b : Bool). if b then o else link_numbered link.number links) (eq_not o.number link.number apart)
    ∙ numbered_first links k link there (λ j other at e. let z = one (suc j) other at e in omega (arith, z))

-- whether the one with that number passes a test
any_none : (P : LinkState → Bool) (number : ℕ) (links : List LinkState) → ((j : ℕ) (other : LinkState) → slice_get links j ≡ Some other → other.number ≡ number → ⊥) → list_any (λ (other : LinkState). (other.number == number) && P other) links ≡ false
any_none P number [] none = refl
any_none P number (o ∷ links) none =
    ap (λ (b : Bool). (b && P o) || list_any (λ (other : LinkState). (other.number == number) && P other) links) (eq_not o.number number (none 0 o refl))
    ∙ any_none P number links (λ j other at e. none (suc j) other at e)

any_one : (P : LinkState → Bool) (number k : ℕ) (links : List LinkState) (link : LinkState) → slice_get links k ≡ Some link → link.number ≡ number → ((j : ℕ) (other : LinkState) → slice_get links j ≡ Some other → other.number ≡ number → j ≡ k) → list_any (λ (other : LinkState). (other.number == number) && P other) links ≡ P link
any_one P number k [] link there is one = absurd (nothing_there k there)
any_one P number zero (o ∷ links) link there is one =
    let e = same_some there in
    let none = any_none P number links (λ j other at same. let z = one (suc j) other at same in absurd (omega (arith, z))) in
    ap (λ (b : Bool). (b && P o) || list_any (λ (other : LinkState). (other.number == number) && P other) links) (eq_is o.number number (ap (λ (l : LinkState). l.number) e ∙ is))
    ∙ (ap (λ (b : Bool). P o || b) none ∙ (or_false (P o) ∙ ap P e))
  where
    or_false : (b : Bool) → (b || false) ≡ b
    or_false true = refl
    or_false false = refl
any_one P number (suc k) (o ∷ links) link there is one =
    ap (λ (b : Bool). (b && P o) || list_any (λ (other : LinkState). (other.number == number) && P other) links) (eq_not o.number number (λ e. let z = one 0 o refl e in omega (arith, z)))
    ∙ any_one P number k links link there is (λ j other at e. let z = one (suc j) other at e in omega (arith, z))

-- a frame reaches an open link as it goes to it
pub reaches_open : (rules : Rules) (packet : Packet) (answer : Admit) (given index k : ℕ) (links : List LinkState) (own other : LinkState) → Rising given links → slice_get links index ≡ Some own → slice_get links k ≡ Some other → reaches rules packet answer links own.number other.number ≡ passes rules packet answer own other
reaches_open rules packet answer given index k links own other r here there =
    any_one (passes rules packet answer (link_numbered own.number links)) other.number k links other there refl (λ j o at e. one_place given links r j k o other at there e)
    ∙ ap (λ (l : LinkState). passes rules packet answer l other) (numbered_first links index own here (λ j o at e. one_place given links r j index o own at here e))

-- and none that has closed
pub reaches_closed : (rules : Rules) (packet : Packet) (answer : Admit) (links : List LinkState) (own number : ℕ) → ((j : ℕ) (other : LinkState) → slice_get links j ≡ Some other → other.number ≡ number → ⊥) → reaches rules packet answer links own number ≡ false
reaches_closed rules packet answer links own number none = any_none (passes rules packet answer (link_numbered own links)) number links none

pub own_numbered : (given index : ℕ) (links : List LinkState) (own : LinkState) → Rising given links → slice_get links index ≡ Some own → link_numbered own.number links ≡ own
own_numbered given index links own r here = numbered_first links index own here (λ j o at e. one_place given links r j index o own at here e)
