-- Bytes that are skipped for one reason, one by one.
use Rattle.std.proofs.Common.{◌≡◌, ◌≢◌, ℕ, zero, suc, ◌+◌, ◌-◌, ◌<◌, ◌≤◌, ◌==◌, ◌&&◌, Bool, true, false, not, nat_lt, nat_le, List, [], ◌∷◌, ◌++◌, inl, inr, map, min, length, take, drop, slice_index, Option, None, Some, refl, sym, ap, ◌∙◌, subst, arith, append_assoc, append-nil, length-drop}
use Rattle.std.specs.Prelude.{is_none}
use Rattle.std.proofs.lemmas.Bool.Decides.{nat_tests}
use Rattle.std.proofs.lemmas.List.{drop-drop}
use Rattle.x25_check.specs.Extras.{extra_of}
use Rattle.mav_frame.specs.Looks.{is_old_at, id_at, look_of}
use Rattle.mav_frame.specs.Parse.{SkipReasonAs}
use Rattle.mav_frame.specs.declared.looks.Look.TheVariants.{NotHere}
use Rattle.mav_frame.specs.declared.looks.Why.{Why}
use Rattle.mav_frame.specs.declared.looks.Why.TheVariants.{NotStx, UnknownFlag, UnknownId, BadCheck, Short}
use Rattle.mav_frame.specs.declared.events.Event.{Event}
use Rattle.mav_frame.proofs.Reasons.{listed}
use Rattle.mav_stream.specs.Held.{Held}
use Rattle.mav_stream.specs.Progress.{Progress}
use Rattle.mav_stream.specs.declared.Next.TheVariants.{Skipped}
use Rattle.mav_stream.proofs.Steps.{next_on}
use Rattle.mav_stream.proofs.Answers.{gives_skip, some_held}
use Rattle.mav_stream.specs.Skips.{is_stx, most_skipped, skips_at, skipped_length}
use Rattle.mav_stream.specs.Spans.{skipped_for}
use Rattle.mav_stream.proofs.Counts.{passes, within}

-- ---- from an offset on

index_drop : (j : ℕ) (b : List ℕ) (k : ℕ) → slice_index (drop j b) k ≡ slice_index b (j + k)
index_drop zero b k = ap (slice_index b) (let e : k ≡ 0 + k = omega arith in e)
index_drop (suc j) [] k = refl
index_drop (suc j) (x ∷ xs) k = index_drop j xs k ∙ ap (slice_index (x ∷ xs)) (let e : suc (j + k) ≡ suc j + k = omega arith in e)

moved : (why : Why) (extras : List (ℕ × ℕ)) (reads_old : Bool) (b : List ℕ) (j : ℕ) → skips_at why extras reads_old (drop j b) 0 ≡ skips_at why extras reads_old b j
moved NotStx extras reads_old b j = ap (λ (x : ℕ). not (is_stx reads_old x)) (index_drop j b 0 ∙ ap (slice_index b) (let e : j + 0 ≡ j = omega arith in e))
moved UnknownFlag extras reads_old b j =
    let first = index_drop j b 0 ∙ ap (slice_index b) (let e : j + 0 ≡ j = omega arith in e) in
    let flag = index_drop j b 2 in
    λ i. first i == 0xFD && nat_lt 1 (flag i)
moved UnknownId extras reads_old b j =
    let first = index_drop j b 0 ∙ ap (slice_index b) (let e : j + 0 ≡ j = omega arith in e) in
    let id = index_drop j b 5 in
    let long : nat_le 6 (length (drop j b)) ≡ nat_le (j + 6) (length b) = long_is (length (drop j b)) (length b) j (length-drop j b) in
    λ i. reads_old && (first i == 0xFE && (long i && is_none (extra_of (id i) extras)))
  where
    long_is : (l m k : ℕ) → l ≡ m - k → nat_le 6 l ≡ nat_le (k + 6) m
    long_is l m k e = grind (arith, nat_tests)
moved BadCheck extras reads_old b j = refl
moved Short extras reads_old b j = refl

-- ---- the reason that shows is the one of a look

no_stx : (reads_old : Bool) (x : ℕ) → not (is_stx reads_old x) ≡ true → (x ≢ 0xFD) × ((reads_old && (x == 0xFE)) ≡ false)
no_stx true x e = (grind (arith, nat_tests), grind (arith, nat_tests))
no_stx false x e = (grind (arith, nat_tests), refl)

flagged : (a b : ℕ) → (a == 0xFD && nat_lt 1 b) ≡ true → (a ≡ 0xFD) × (1 < b)
flagged a b e = (grind (arith, nat_tests), grind (arith, nat_tests))

new_stx : (reads_old : Bool) (x : ℕ) → x ≡ 0xFD → (reads_old && (x == 0xFE)) ≡ false
new_stx true x e = grind (arith, nat_tests)
new_stx false x e = refl

three : (b : List ℕ) → 1 < slice_index b 2 → 3 ≤ length b
three [] h = absurd (omega arith)
three (x ∷ []) h = absurd (omega arith)
three (x ∷ y ∷ []) h = absurd (omega arith)
three (x ∷ y ∷ z ∷ rest) h = omega arith

none_of : (o : Option ℕ) → is_none o ≡ true → o ≡ None
none_of None e = refl
none_of (Some x) e = absurd (let t : false ≡ true = e in cc)

and_left : (x y : Bool) → (x && y) ≡ true → x ≡ true
and_left true y e = refl
and_left false y e = e

and_right : (x y : Bool) → (x && y) ≡ true → y ≡ true
and_right true y e = e
and_right false y e = absurd (let t : false ≡ true = e in cc)

is_first : (x : ℕ) → (x == 0xFE) ≡ true → x ≡ 0xFE
is_first x e = grind (arith, nat_tests)

is_long : (n : ℕ) → nat_le 6 n ≡ true → 6 ≤ n
is_long n e = grind (arith, nat_tests)

no_truth : true ≡ false → ⊥
no_truth e = cc

module _ (extras : List (ℕ × ℕ)) (reads_old : Bool) where
  abbrev Looks : Why → List ℕ → Type 0
  Looks why b = look_of extras reads_old b ≡ NotHere why

  -- by the reason in words, at the version whose STX comes first
  by_words : (why : Why) (v : Bool) (b : List ℕ) → is_old_at reads_old b ≡ v → (why ≢ Short) → SkipReasonAs extras v b why → Looks why b
  by_words why v b is other h =
      elim (listed extras reads_old b why (subst (λ (w : Bool). SkipReasonAs extras w b why) (sym is) h)) [ inl e ↦ e | inr e ↦ absurd (other e.1) ]

  shown : (why : Why) (b : List ℕ) → 0 < length b → skips_at why extras reads_old b 0 ≡ true → Looks why b
  shown NotStx b some e =
      let n = no_stx reads_old (slice_index b 0) e in
      by_words NotStx false b n.1 (λ t. let u : NotStx ≡ Short = t in cc) (some, n.0)
  shown UnknownFlag b some e =
      let f = flagged (slice_index b 0) (slice_index b 2) e in
      by_words UnknownFlag false b (new_stx reads_old (slice_index b 0) f.0) (λ t. let u : UnknownFlag ≡ Short = t in cc) (refl, f.0, three b f.1, f.1)
  shown UnknownId b some e =
      let old = and_left reads_old _ e in let rest = and_right reads_old _ e in
      let first = and_left (slice_index b 0 == 0xFE) _ rest in let more = and_right (slice_index b 0 == 0xFE) _ rest in
      let long = is_long (length b) (and_left (nat_le 6 (length b)) _ more) in
      let none : extra_of (slice_index b 5) extras ≡ None = none_of _ (and_right (nat_le 6 (length b)) _ more) in
      let id : id_at true b ≡ slice_index b 5 = omega arith in
      by_words UnknownId true b ((λ i. old i && first i)) (λ t. let u : UnknownId ≡ Short = t in cc)
      (record { stx = is_first (slice_index b 0) first; flag = λ bad. absurd (no_truth bad) }, long, ap (λ (n : ℕ). extra_of n extras) id ∙ none)
  shown BadCheck b some e = absurd (let t : false ≡ true = e in cc)
  shown Short b some e = absurd (let t : false ≡ true = e in cc)

  -- ---- each byte of a run

  module _ (why : Why) (b : List ℕ) (e : Looks why b) where
    some : 0 < length b
    some = some_held extras reads_old b why e

    pub length_within : skipped_length why extras reads_old b ≤ length b
    length_within = let h = some in let w = within (skips_at why extras reads_old (drop 1 b)) (min most_skipped (length b) - 1) in omega arith

    pub each_looks : (k : ℕ) → k < skipped_length why extras reads_old b → Looks why (drop k b)
    each_looks zero h = e
    each_looks (suc k) h =
        let rest : List ℕ = drop 1 b in
        let test = passes (skips_at why extras reads_old rest) (min most_skipped (length b) - 1) k (omega arith) in
        let w = within (skips_at why extras reads_old rest) (min most_skipped (length b) - 1) in
        let here = shown why (drop k rest) (omega (arith, w, h, length-drop k rest, length-drop 1 b)) (moved why extras reads_old rest k ∙ test) in
        subst (Looks why) (drop-drop k 1 b ∙ ap (λ (n : ℕ). drop n b) (let n : 1 + k ≡ suc k = omega arith in n)) here

module _ (extras : List (ℕ × ℕ)) (reads_old : Bool) (taken : List ℕ) (old : Held) (why : Why) where
  -- bytes that are each skipped for that reason
  pub skips_on : (n : ℕ) (b : List ℕ) (given : List Event) → n ≤ length b → ((k : ℕ) → k < n → look_of old.extras old.reads_old (drop k b) ≡ NotHere why) → Progress extras reads_old taken given (record old { bytes = b }) → Progress extras reads_old taken (given ++ map (skipped_for why) (take n b)) (record old { bytes = drop n b })
  skips_on zero b given fits looks h = subst (λ (z : List Event). Progress extras reads_old taken z (record old { bytes = b })) (sym (append-nil given)) h
  skips_on (suc n) [] given fits looks h = absurd (omega arith)
  skips_on (suc n) (x ∷ xs) given fits looks h =
      let held : Held = record old { bytes = x ∷ xs } in
      let gives = gives_skip held why (omega arith) (looks 0 (omega arith)) in
      let after = next_on extras reads_old taken given held h (Skipped x why) (record old { bytes = xs }) gives in
      let rest = skips_on n xs (given ++ skipped_for why x ∷ []) (omega arith) (λ k less. looks (suc k) (omega arith)) after in
      subst (λ (z : List Event). Progress extras reads_old taken z (record old { bytes = drop n xs })) (append_assoc given (skipped_for why x ∷ []) (map (skipped_for why) (take n xs))) rest
