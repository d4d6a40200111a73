-- What is told, one frame after another.
use Rattle.std.proofs.Common.{◌≡◌, ◌∙◌, ◌<◌, ◌≤◌, ℕ, zero, suc, ◌+◌, Bool, true, false, if◌then◌else◌, List, [], ◌∷◌, ◌++◌, length, map, filter, get_or, set, take, drop, slice_get, Some, refl, sym, ap, subst, arith, append_assoc}
use Rattle.std.proofs.lemmas.List.{append-nil, map-append}
use Rattle.std.proofs.lemmas.Option.{slice_get-get_or}
use Rattle.mav_router.specs.Journal.{Rules}
use Rattle.relay_rules.specs.Kept.{head_of}
use Rattle.relay_rules.specs.States.{LinkState, link_at}
use Rattle.relay_rules.specs.Steps.{Event, closes, forgets, hears, opens, refuses}
use Rattle.relay_rules.specs.declared.links.OpenLink.{OpenLink}
use Rattle.relay_core.specs.Flows.{Told}
use Rattle.relay_core.specs.Moves.{AreHeard, Moves, numbers_of}
use Rattle.relay_core.specs.RelayRuns.{RelayKept}
use Rattle.relay_core.proofs.Places.{nothing_there, same_some}
use Rattle.relay_core.specs.Said.{Said, Tells}
use Rattle.relay_core.specs.Said.Said.{Framed}

pub tells_then : {Watcher : Type 0} (told : Watcher → List Said → Type 0) (s t u : Watcher) (a b : List Told) → Tells told s t a → Tells told t u b → Tells told s u (a ++ b)
tells_then told s t u a b first second = λ all h.
    let A = map Framed a in
    let B = map Framed b in
    subst (told u) (append_assoc all A B ∙ ap (λ (l : List Said). all ++ l) (sym (map-append Framed a b))) (second (all ++ A) (first all h))

no_more : (xs : List Told) → xs ≡ xs ++ []
no_more [] = refl
no_more (x ∷ xs) = ap (λ (l : List Told). x ∷ l) (no_more xs)

pub tells_none : {Watcher : Type 0} (told : Watcher → List Said → Type 0) (watcher : Watcher) → Tells told watcher watcher []
tells_none told watcher = λ all h. subst (told watcher) (sym (append-nil all)) h

pub moves_none : (rules : Rules) (view : RelayKept) {Watcher : Type 0} (told : Watcher → List Said → Type 0) (watcher : Watcher) → Moves rules view view told watcher watcher
moves_none rules view told watcher start run is h = record {
  now = run;
  is_run = is;
  holds = h;
  tapes = refl;
  since = [];
  events = sym (append-nil run.events);
  frames = tt;
  more = [];
  course = no_more run.course.told;
  tells_it = tells_none told watcher;
}

pub heard_more : (a b : List Event) → AreHeard a → AreHeard b → AreHeard (a ++ b)
heard_more [] b f g = g
heard_more (hears number packet answer ∷ a) b f g = heard_more a b f g
heard_more (opens number port ∷ a) b f g = f
heard_more (closes number ∷ a) b f g = f
heard_more (refuses port packet answer ∷ a) b f g = f
heard_more (forgets ∷ a) b f g = f

pub moves_on : (rules : Rules) (a b c : RelayKept) {Watcher : Type 0} (told : Watcher → List Said → Type 0) (s t u : Watcher) → Moves rules a b told s t → Moves rules b c told t u → Moves rules a c told s u
moves_on rules a b c told s t u first second start run is h =
    let m = first start run is h in
    let n = second start m.now m.is_run m.holds in
    record {
      now = n.now;
      is_run = n.is_run;
      holds = n.holds;
      tapes = n.tapes ∙ m.tapes;
      since = m.since ++ n.since;
      events = n.events ∙ (ap (λ (l : List Event). l ++ n.since) m.events ∙ append_assoc run.events m.since n.since);
      frames = heard_more m.since n.since m.frames n.frames;
      more = m.more ++ n.more;
      course = n.course ∙ (ap (λ (l : List Told). l ++ n.more) m.course ∙ append_assoc run.course.told m.more n.more);
      tells_it = tells_then told s t u m.more n.more m.tells_it n.tells_it;
    }

-- the numbers of the links at the indexes at which a test holds are those of the links that pass it
pub numbers_passing : (goes : ℕ → Bool) (P : LinkState → Bool) (k : ℕ) (links : List LinkState) → ((j : ℕ) → j < length links → goes (k + j) ≡ P (link_at links j)) → numbers_of goes k (map head_of links) ≡ map (λ (l : LinkState). l.number) (filter P links)
numbers_passing goes P k [] same = refl
numbers_passing goes P k (l ∷ links) same =
    let first : goes k ≡ P l = (let e : k ≡ k + 0 = omega arith in ap goes e ∙ same 0 (omega arith)) in
    let rest = numbers_passing goes P (k + 1) links (λ j less. (let e : k + 1 + j ≡ k + suc j = omega arith in ap goes e ∙ same (suc j) (omega (arith, less)))) in
    (λ i. if first i then l.number ∷ rest i else rest i) ∙ both (P l)
  where
    both : (b : Bool) → (if b then l.number ∷ map (λ (l : LinkState). l.number) (filter P links) else map (λ (l : LinkState). l.number) (filter P links)) ≡ map (λ (l : LinkState). l.number) (if b then l ∷ filter P links else filter P links)
    both true = refl
    both false = refl

-- ---- the numbers are put one after another

next_link : (links : List OpenLink) (at : ℕ) (x : OpenLink) → slice_get links at ≡ Some x → drop at links ≡ x ∷ drop (at + 1) links
next_link [] at x e = absurd (nothing_there at e)
next_link (l ∷ links) zero x e = ap (λ (o : OpenLink). o ∷ links) (same_some e) ∙ ap (λ (r : List OpenLink). x ∷ r) (sym (none links))
  where
    none : (xs : List OpenLink) → drop 0 xs ≡ xs
    none [] = refl
    none (x ∷ xs) = refl
next_link (l ∷ links) (suc at) x e = next_link links at x e ∙ (let same : suc (at + 1) ≡ suc at + 1 = omega arith in ap (λ (n : ℕ). x ∷ drop n (l ∷ links)) same)

take_set : (numbers : List ℕ) (count v : ℕ) → count < length numbers → take (count + 1) (set numbers count v) ≡ take count numbers ++ v ∷ []
take_set [] count v l = absurd (omega (arith, l))
take_set (n ∷ ns) zero v l = ap (λ (r : List ℕ). v ∷ r) (none ns)
  where
    none : (xs : List ℕ) → take 0 xs ≡ []
    none [] = refl
    none (x ∷ xs) = refl
take_set (n ∷ ns) (suc count) v l =
    let same : suc count + 1 ≡ suc (count + 1) = omega arith in
    ap (λ (m : ℕ). take m (n ∷ set ns count v)) same ∙ ap (λ (r : List ℕ). n ∷ r) (take_set ns count v (omega (arith, l)))

pub put_more : (goes : ℕ → Bool) (at count : ℕ) (links : List OpenLink) (numbers whole : List ℕ) (x : OpenLink) → slice_get links at ≡ Some x → count < length numbers → goes at ≡ true → take count numbers ++ numbers_of goes at (drop at links) ≡ whole → take (count + 1) (set numbers count x.number) ++ numbers_of goes (at + 1) (drop (at + 1) links) ≡ whole
put_more goes at count links numbers whole x there room is inv =
    let rest = numbers_of goes (at + 1) (drop (at + 1) links) in
    let next : numbers_of goes at (drop at links) ≡ x.number ∷ rest = ap (numbers_of goes at) (next_link links at x there) ∙ ap (λ (b : Bool). if b then x.number ∷ rest else rest) is in
    ap (λ (l : List ℕ). l ++ rest) (take_set numbers count x.number room) ∙ (append_assoc (take count numbers) (x.number ∷ []) rest ∙ (ap (λ (l : List ℕ). take count numbers ++ l) (sym next) ∙ inv))

pub put_none : (goes : ℕ → Bool) (at count : ℕ) (links : List OpenLink) (numbers whole : List ℕ) → at < length links → goes at ≡ false → take count numbers ++ numbers_of goes at (drop at links) ≡ whole → take count numbers ++ numbers_of goes (at + 1) (drop (at + 1) links) ≡ whole
put_none goes at count links numbers whole within is inv =
    let x = get_or links at (record { number = 0; port = 0 }) in
    let there = slice_get-get_or links at (record { number = 0; port = 0 }) within in
    let rest = numbers_of goes (at + 1) (drop (at + 1) links) in
    let next : numbers_of goes at (drop at links) ≡ rest = ap (numbers_of goes at) (next_link links at x there) ∙ ap (λ (b : Bool). if b then x.number ∷ rest else rest) is in
    ap (λ (l : List ℕ). take count numbers ++ l) (sym next) ∙ inv

pub put_all : (goes : ℕ → Bool) (at count : ℕ) (links : List OpenLink) (numbers whole : List ℕ) → length links ≤ at → take count numbers ++ numbers_of goes at (drop at links) ≡ whole → take count numbers ≡ whole
put_all goes at count links numbers whole past inv =
    sym (append-nil (take count numbers)) ∙ (ap (λ (l : List OpenLink). take count numbers ++ numbers_of goes at l) (sym (nothing_left links at past)) ∙ inv)
  where
    nothing_left : (xs : List OpenLink) (n : ℕ) → length xs ≤ n → drop n xs ≡ []
    nothing_left [] zero l = refl
    nothing_left [] (suc n) l = refl
    nothing_left (x ∷ xs) zero l = absurd (omega (arith, l))
    nothing_left (x ∷ xs) (suc n) l = nothing_left xs n (omega (arith, l))
