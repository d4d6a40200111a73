-- How many bytes are skipped, by what was counted of those after the first.
use Rattle.std.proofs.Common.{◌≡◌, ℕ, ◌+◌, ◌-◌, ◌<◌, ◌≤◌, Bool, true, false, not, List, [], length, take, drop, min, slice_index, slice_range, sym, ap, ◌∙◌, arith, length-drop}
use Rattle.std.proofs.lemmas.List.{get_or-take, take_all}
use Rattle.mav_frame.specs.declared.looks.Why.{Why}
use Rattle.mav_frame.specs.declared.looks.Why.TheVariants.{NotStx}
use Rattle.mav_stream.specs.Skips.{count_while, is_stx, most_skipped, skips_at, skipped_length}
use Rattle.mav_stream.proofs.Counts.{counted}

rest_is : (b : List ℕ) → slice_range b 1 (length b) ≡ drop 1 b
rest_is b = take_all (length b - 1) (drop 1 b) (omega (arith, length-drop 1 b))

pub length_by : (why : Why) (extras : List (ℕ × ℕ)) (reads_old : Bool) (b : List ℕ) (n most : ℕ) → most ≡ min most_skipped (length b) - 1 → n ≤ most → ((k : ℕ) → k < n → skips_at why extras reads_old (slice_range b 1 (length b)) k ≡ true) → (n < most → skips_at why extras reads_old (slice_range b 1 (length b)) n ≡ false) → 1 + n ≡ skipped_length why extras reads_old b
length_by why extras reads_old b n most is within each ends =
    let test : List ℕ → ℕ → Bool = λ rest k. skips_at why extras reads_old rest k in
    let e : n ≡ count_while (test (slice_range b 1 (length b))) most = counted (test (slice_range b 1 (length b))) n most within each ends in
    let here : n ≡ count_while (test (drop 1 b)) (min most_skipped (length b) - 1) = e ∙ (λ i. count_while (test (rest_is b i)) (is i)) in
    omega (arith, here)

-- if only the bytes that count were searched for an STX
pub length_searched : (extras : List (ℕ × ℕ)) (reads_old : Bool) (b searched : List ℕ) (n most : ℕ) → most ≡ min most_skipped (length b) - 1 → searched ≡ take most (slice_range b 1 (length b)) → length searched ≡ most → n ≤ length searched → ((k : ℕ) → k < n → skips_at NotStx [] reads_old searched k ≡ true) → (n < length searched → skips_at NotStx [] reads_old searched n ≡ false) → 1 + n ≡ skipped_length NotStx extras reads_old b
length_searched extras reads_old b searched n most is part long within each ends =
    let same : (k : ℕ) → k < most → slice_index searched k ≡ slice_index (slice_range b 1 (length b)) k =
    λ k h. ap (λ (l : List ℕ). slice_index l k) part ∙ get_or-take most (slice_range b 1 (length b)) k 0 h in
    let test : (k : ℕ) → k < most → skips_at NotStx [] reads_old searched k ≡ skips_at NotStx extras reads_old (slice_range b 1 (length b)) k =
    λ k h. ap (λ (x : ℕ). not (is_stx reads_old x)) (same k h) in
    length_by NotStx extras reads_old b n most is (omega arith) (λ k h. sym (test k (omega arith)) ∙ each k h) (λ h. sym (test n h) ∙ ends (omega arith))
