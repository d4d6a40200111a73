use Rattle.std.proofs.Common.{◌≡◌, ℕ, ◌+◌, ◌<◌, ◌≤◌, ◌==◌, ◌&&◌, ◌⊎◌, true, false, nat_lt, nat_le, List, length, slice_index, Option, None, Some, inl, inr, refl, sym, ap, ◌∙◌, arith}
use Rattle.std.specs.Prelude.{is_none, is_some}
use Rattle.std.proofs.lemmas.Bool.Decides.{nat_tests}
use Rattle.x25_check.specs.Extras.{extra_of}
use Rattle.mav_frame.specs.declared.looks.Why.TheVariants.{UnknownId}
use Rattle.mav_stream.specs.Skips.{is_marked, skips_at}
use Rattle.mav_stream.proofs.skips.unknown_eights.Goals as goal

none_of : (o : Option ℕ) → is_some o ≡ false → is_none o ≡ true
none_of None e = refl
none_of (Some x) e = absurd (let t : true ≡ false = e in cc)

marked : (a b high : ℕ) → (a == 0xFE && nat_lt high b) ≡ true → ((a == 0xFE) ≡ true) × (high < b)
marked a b high e = (grind (arith, nat_tests), grind (arith, nat_tests))

is_long : (k n : ℕ) → k + 6 ≤ n → nat_le (k + 6) n ≡ true
is_long k n h = grind (arith, nat_tests)

two : (id : ℕ) → 253 < id → id < 256 → (id ≡ 254) ⊎ (id ≡ 255)
two id low high = grind arith

unknown : (extras : List (ℕ × ℕ)) (b : List ℕ) (k : ℕ) → is_some (extra_of 254 extras) ≡ false → is_some (extra_of 255 extras) ≡ false → slice_index b (k + 5) < 256 → k + 6 ≤ length b → is_marked 0xFE 5 253 b k ≡ true → skips_at UnknownId extras true b k ≡ true
unknown extras b k first second small long e =
    let m = marked (slice_index b k) (slice_index b (k + 5)) 253 e in
    let none : is_none (extra_of (slice_index b (k + 5)) extras) ≡ true = elim (two (slice_index b (k + 5)) m.1 small) [
      | inl is ↦ ap (λ (n : ℕ). is_none (extra_of n extras)) is ∙ none_of (extra_of 254 extras) first
      | inr is ↦ ap (λ (n : ℕ). is_none (extra_of n extras)) is ∙ none_of (extra_of 255 extras) second
    ] in
    λ i. m.0 i && (is_long k (length b) long i && none i)

pub returns-clause-each : goal.returns-clause-each
returns-clause-each c k h =
    let extras = c.args.table.now in let b : List ℕ = c.args.bytes.now in
    let first : is_some (extra_of 254 extras) ≡ false = ap is_some (sym c.extra.ensures) ∙ (sym c.is_some.ensures ∙ c.if-is_some.false) in
    let second : is_some (extra_of 255 extras) ≡ false = ap is_some (sym c.extra-else-is_some.ensures) ∙ (sym c.is_some-else-is_some.ensures ∙ c.if-is_some-2.false) in
    let small : slice_index b (k + 5) < 256 = omega (arith, c.type_inv.bytes (k + 5)) in
    let room = c.requires in let within = c.marked_eights.ensures.within in
    unknown extras b k first second small (omega arith) (c.marked_eights.ensures.each k h)
