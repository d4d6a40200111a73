use Rattle.std.proofs.Common.{◌≡◌, ◌∙◌, ◌⊎◌, ◌+◌, ◌<◌, ℕ, Bool, true, false, nat_lt, List, Some, get_or, slice_get, ap, subst, sym, refl, inl, inr, arith}
use Rattle.std.proofs.lemmas.Option.{get_or_from_slice_get, slice_get_within}
use Rattle.std.proofs.lemmas.Bool.Decides.{nat_tests}
use Rattle.mav_router.specs.declared.entries.SwitchFault.{SwitchFault}
use Rattle.mav_router.specs.declared.parts.Halt.TheVariants.{Done, Fault}
use Rattle.mav_router.specs.declared.parts.Side.{Side}
use Rattle.mav_router.proofs.Journals.{element}
use Rattle.mav_router.proofs.closing.first_fault.Goals as goal

-- one part more, which has no fault
done_more : {L : Type 0} (sides : List (Side L)) (at : ℕ) (held other : Side L) → ((k : ℕ) (side : Side L) → k < at → slice_get sides k ≡ Some side → side.halt ≡ Done) → held ≡ get_or sides at held → ((why : SwitchFault) → (get_or sides at other).halt ≡ Fault why → ⊥) → (held.halt ≡ Done) ⊎ ((why : SwitchFault) × (held.halt ≡ Fault why))
    → (k : ℕ) (side : Side L) → k < at + 1 → slice_get sides k ≡ Some side → side.halt ≡ Done
done_more {L} sides at held other before is sound ends k side within there = by_place (nat_lt k at) refl
  where
    last : k ≡ at → (held.halt ≡ Done) ⊎ ((why : SwitchFault) × (held.halt ≡ Fault why)) → side.halt ≡ Done
    last same (inl e) =
        let at_it = subst (λ (n : ℕ). slice_get sides n ≡ Some side) same there in
        ap (λ (s : Side L). s.halt) (sym (is ∙ get_or_from_slice_get sides at side held at_it)) ∙ e
    last same (inr fault) =
        let at_it = subst (λ (n : ℕ). slice_get sides n ≡ Some side) same there in
        absurd (sound fault.0 (ap (λ (s : Side L). s.halt) (get_or_from_slice_get sides at side other at_it ∙ sym (is ∙ get_or_from_slice_get sides at side held at_it)) ∙ fault.1))

    by_place : (t : Bool) → nat_lt k at ≡ t → side.halt ≡ Done
    by_place true e = let less : k < at = grind (arith, nat_tests) in before k side less there
    by_place false e = let same : k ≡ at = grind (arith, nat_tests) in last same ends

pub loop-at-preserved : goal.loop-at-preserved
loop-at-preserved g c =
    let sides = c.args.sides.now in
    let at = c.loop-at.at in
    let held = c.index-sides-at.result in
    let next = c.stopped_by-found.ensures in
    record {
      none = λ e. done_more sides at (get_or sides at held) _ (c.loop-at.invariant.none (next.before e)) (ap (get_or sides at) c.index-sides-at.is) c.in_default.not-Fault (next.done e);
      some = next.some;
    }

pub returns-in-Fault-clause-some : goal.returns-in-Fault-clause-some
returns-in-Fault-clause-some g c =
    let side = element c.args.sides.now c.loop-at.at (omega (arith, c.loop-at-test.true)) in
    inr (record { at = c.loop-at.at; side = side.0; there = side.1; fault = ap (λ (s : Side g.row.L.Denot). s.halt) (sym (get_or_from_slice_get c.args.sides.now c.loop-at.at side.0 _ side.1)) ∙ c.in-Fault.is })

pub returns-clause-none : goal.returns-clause-none
returns-clause-none g c = λ e k side there.
    let within = slice_get_within c.args.sides.now k side there in
    c.loop-at.invariant.none e k side (omega (arith, within, c.loop-at-test.false)) there
