use Rattle.std.proofs.Common.{◌≡◌, Bool, ℕ, ◌+◌, ◌-◌, ◌≤◌, List, [], ◌∷◌, ◌++◌, length, drop, slice_range, refl, sym, ap, ◌∙◌, subst, arith, length-drop}
use Rattle.std.proofs.lemmas.List.{drop-drop, take_all}
use Rattle.mav_frame.specs.Parse.{EventAt, BeginsFinal}
use Rattle.mav_frame.specs.declared.events.Event.{Event}
use Rattle.mav_frame.proofs.LongerParse.{final_goes_on, final_ends}
use Rattle.mav_frame.proofs.parsing.parse.Goals as goal

-- a prefix of the parse, one event and its bytes further
further : (extras : List (ℕ × ℕ)) (old : Bool) (events after : List Event) (event : Event) (b : List ℕ) (place size : ℕ) → BeginsFinal extras old events (drop place b) b → EventAt extras old event (slice_range b place (length b)) (drop size (slice_range b place (length b))) → after ≡ events ++ event ∷ [] → BeginsFinal extras old after (drop (place + size) b) b
further extras old events after event b place size begun here is =
    let e : drop size (drop place b) ≡ drop (place + size) b = drop-drop size place b ∙ ap (λ (n : ℕ). drop n b) (omega arith) in
    let all : slice_range b place (length b) ≡ drop place b = take_all (length b - place) (drop place b) (omega (arith, length-drop place b)) in
    let there : EventAt extras old event (drop place b) (drop size (drop place b)) = subst (λ (z : List ℕ). EventAt extras old event z (drop size z)) all here in
    subst (λ (z : List Event × List ℕ). BeginsFinal extras old z.0 z.1 b) (λ i. (sym is i, e i)) (final_goes_on extras old events event (drop place b) (drop size (drop place b)) b begun there)

pub loop-place-preserved : goal.loop-place-preserved
loop-place-preserved c =
    let b = c.args.bytes.now in let place = c.loop-place.place in let event = c.event_at-event in
    let size = event.ensures.size in let within = c.loop-place.invariant.within in
    record {
      within = omega (arith, size.1, length-drop place b);
      begun = further c.args.extras.now c.args.old c.loop-place.events.items c.push.new.self.items event.result.0 b place event.result.1 c.loop-place.invariant.begun event.ensures.event c.in_ok-push.ensures.items;
    }

-- there is nothing past the end
nothing_past : (b : List ℕ) (place : ℕ) → length b ≤ place → drop place b ≡ []
nothing_past b place h = empty (drop place b) (omega (arith, length-drop place b))
  where
    empty : (xs : List ℕ) → length xs ≡ 0 → xs ≡ []
    empty [] e = refl
    empty (x ∷ xs) e = absurd (omega arith)

pub returns : goal.returns
returns c =
    let extras = c.args.extras.now in let old = c.args.old in let b = c.args.bytes.now in let events = c.loop-place.events.items in
    final_ends extras old events b (subst (λ (z : List ℕ). BeginsFinal extras old events z b) (nothing_past b c.loop-place.place c.loop-place-test.false) c.loop-place.invariant.begun)
