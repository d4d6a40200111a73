-- What a binary search finds among ascending ids.
use Rattle.std.proofs.Common.{◌≡◌, inl, inr, ℕ, ◌+◌, ◌<◌, ◌≤◌, Bool, true, false, List, length, get_or, Some, None, Ok, Err, Result, sym, ap, ◌∙◌, refl, cond, eqb, ltb, arith}
use Rattle.std.specs.Prelude.{position, slice_get, option_map}
use Rattle.std.specs.List.{position_or_len}
use Rattle.std.specs.List.Sorted.{IsStrictlyIncreasing, IsBinarySearchResult, IsSearchInRange, IsSortedBy, IsNonDecreasingBy}
use Rattle.std.specs.Ordering.{nat_cmp, is_lt, ordering_index}
use Rattle.std.specs.Result.{result_ok}
use Rattle.std.specs.declared.cmp.Ordering.TheVariants.{Less, Equal, Greater}
use Rattle.std.proofs.lemmas.Cmp.{nat_cmp_total}
use Rattle.std.proofs.lemmas.List.{get_or-map, length-map}
use Rattle.std.proofs.lemmas.List.Folds.{find_at}
use Rattle.std.proofs.lemmas.List.Quantifiers.{position-Some}
use Rattle.std.proofs.lemmas.Option.{none-some, slice_get-get_or, slice_get_past}
use Rattle.std.proofs.lemmas.List.Kept.{AllPairs-from_increasing}
use Rattle.std.proofs.lemmas.List.Sorted.{searchable_from_sorted}
use Rattle.std.proofs.lemmas.List.Sums.{position_or_len_is}
use Rattle.std.proofs.lemmas.Bool.{cases_lt}
use Rattle.std.proofs.lemmas.Bool.Decides.{nat_tests}
use Rattle.x25_check.specs.Extras.{ids, extra_of}

-- ---- a comparison, and the test of equality

equal_test : (x y : ℕ) → nat_cmp x y ≡ Equal → eqb x y ≡ true
equal_test x y same =
    elim (ltb x y) as (λ below. cond below Less (cond (eqb x y) Equal Greater) ≡ Equal → eqb x y ≡ true) [
      | true ↦ λ h. cc
      | false ↦ λ h. elim (eqb x y) as (λ equal. cond equal Equal Greater ≡ Equal → equal ≡ true) [ true ↦ λ _. refl | false ↦ λ g. cc ] h
    ] same

less_test : (x y : ℕ) → nat_cmp x y ≡ Less → eqb x y ≡ false
less_test x y less =
    elim (eqb x y) as (λ equal. eqb x y ≡ equal → equal ≡ false) [
      | true ↦ λ test.
          let not_below : ltb x y ≡ false = grind (arith, nat_tests) in
          let is : nat_cmp x y ≡ Equal = rw (not_below, test) refl in
          cc
      | false ↦ λ test. refl
    ] refl

greater_test : (x y : ℕ) → nat_cmp x y ≡ Greater → eqb x y ≡ false
greater_test x y greater =
    elim (eqb x y) as (λ equal. eqb x y ≡ equal → equal ≡ false) [
      | true ↦ λ test.
          let not_below : ltb x y ≡ false = grind (arith, nat_tests) in
          let is : nat_cmp x y ≡ Equal = rw (not_below, test) refl in
          cc
      | false ↦ λ test. refl
    ] refl

not_less : (x y : ℕ) → y < x → is_lt (nat_cmp x y) ≡ false
not_less x y above =
    let not_below : ltb x y ≡ false = grind (arith, nat_tests) in
    let differ : eqb x y ≡ false = grind (arith, nat_tests) in
    rw (not_below, differ) refl

-- ---- the search

id_at : (pairs : List (ℕ × ℕ)) (k : ℕ) (d : ℕ × ℕ) → k < length pairs → get_or (ids pairs) k 0 ≡ (get_or pairs k d).0
id_at pairs k d inside = get_or-map (λ (p : ℕ × ℕ). p.0) pairs k d 0 inside

rises : (pairs : List (ℕ × ℕ)) → IsStrictlyIncreasing (ids pairs) → (i j : ℕ) (d : ℕ × ℕ) → i < j → j < length pairs → (get_or pairs i d).0 < (get_or pairs j d).0
rises pairs up i j d before inside =
    let long : length (ids pairs) ≡ length pairs = length-map pairs (λ (p : ℕ × ℕ). p.0) in
    omega (arith, AllPairs-from_increasing (ids pairs) up i j 0 before (omega (arith, long)), id_at pairs i d (omega arith), id_at pairs j d inside)

sorted : (pairs : List (ℕ × ℕ)) → IsStrictlyIncreasing (ids pairs) → IsSortedBy (λ (a : ℕ × ℕ) (b : ℕ × ℕ). is_lt (nat_cmp a.0 b.0)) pairs
sorted pairs up k d low inside = not_less (get_or pairs (k + 1) d).0 (get_or pairs k d).0 (rises pairs up k (k + 1) d (omega arith) inside)

pub place_found : (pairs : List (ℕ × ℕ)) (id : ℕ) (r : Result ℕ ℕ) → IsStrictlyIncreasing (ids pairs) → IsSearchInRange r (length pairs) → IsBinarySearchResult (λ (p : ℕ × ℕ). nat_cmp p.0 id) pairs r → result_ok r ≡ position (λ (p : ℕ × ℕ). eqb p.0 id) pairs
place_found pairs id (Ok i) up range found =
    let d : ℕ × ℕ = (0, 0) in
    let test : ℕ × ℕ → Bool = λ p. eqb p.0 id in
    let here : test (get_or pairs i d) ≡ true = equal_test (get_or pairs i d).0 id (found d) in
    let equal : (get_or pairs i d).0 ≡ id = grind (arith, nat_tests) in
    let below : (k : ℕ) → k < i → test (get_or pairs k d) ≡ false = λ k before.
    (let less : (get_or pairs k d).0 < (get_or pairs i d).0 = rises pairs up k i d before range in
    grind (arith, nat_tests)) in
    let is : position_or_len test pairs ≡ i = position_or_len_is test pairs i d (omega (arith, range)) below (λ _. here) in
    let within : ltb i (length pairs) ≡ true = grind (arith, nat_tests) in
    rw (is, within) refl
place_found pairs id (Err i) up range found =
    let d : ℕ × ℕ = (0, 0) in
    let test : ℕ × ℕ → Bool = λ p. eqb p.0 id in
    let searchable : IsNonDecreasingBy (λ (p : ℕ × ℕ). ordering_index (nat_cmp p.0 id)) pairs = searchable_from_sorted nat_cmp_total (λ (p : ℕ × ℕ). p.0) pairs id (sorted pairs up) in
    let parts = found searchable in
    let below : (k : ℕ) → k < length pairs → test (get_or pairs k d) ≡ false = λ k inside.
    elim (cases_lt k i) [
      | inl before ↦ less_test (get_or pairs k d).0 id (parts.0 k d (omega arith) before)
      | inr after ↦ greater_test (get_or pairs k d).0 id (parts.1 k d after inside)
    ] in
    let is : position_or_len test pairs ≡ length pairs = position_or_len_is test pairs (length pairs) d (omega arith) below (λ h. absurd (omega arith)) in
    let beyond : ltb (length pairs) (length pairs) ≡ false = grind (arith, nat_tests) in
    rw (is, beyond) refl

-- ---- the byte at an index

-- the byte of the id at an index
pub extra_there : (pairs : List (ℕ × ℕ)) (id i : ℕ) (d : ℕ × ℕ) → position (λ (p : ℕ × ℕ). eqb p.0 id) pairs ≡ Some i → extra_of id pairs ≡ Some (get_or pairs i d).1
extra_there pairs id i d found =
    let test : ℕ × ℕ → Bool = λ p. eqb p.0 id in
    let facts = position-Some test pairs i d found in
    let is : position_or_len test pairs ≡ i = position_or_len_is test pairs i d (omega (arith, facts.0)) facts.2 (λ _. facts.1) in
    ap (option_map (λ (p : ℕ × ℕ). p.1)) (find_at test pairs ∙ (ap (slice_get pairs) is ∙ slice_get-get_or pairs i d facts.0))

-- an id that is at no index has none
pub extra_nowhere : (pairs : List (ℕ × ℕ)) (id : ℕ) → position (λ (p : ℕ × ℕ). eqb p.0 id) pairs ≡ None → extra_of id pairs ≡ None
extra_nowhere pairs id none =
    let test : ℕ × ℕ → Bool = λ p. eqb p.0 id in
    let end = position_or_len test pairs in
    let past : length pairs ≤ end =
    elim (ltb end (length pairs)) as (λ below. ltb end (length pairs) ≡ below → cond below (Some end) None ≡ None → length pairs ≤ end) [
      | true ↦ λ t h. absurd (none-some end (sym h))
      | false ↦ λ t h. grind (arith, nat_tests)
    ] refl none in
    ap (option_map (λ (p : ℕ × ℕ). p.1)) (find_at test pairs ∙ slice_get_past pairs end past)
