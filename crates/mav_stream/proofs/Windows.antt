-- What is left of a part of a buffer.
use Rattle.std.proofs.Common.{◌≡◌, ℕ, ◌+◌, ◌-◌, ◌≤◌, List, take, drop, slice_range, sym, ap, ◌∙◌, arith}
use Rattle.std.proofs.lemmas.List.{drop-take, drop-drop}

-- the part without its first bytes begins after them
pub without_first : (count start end : ℕ) (buffer : List ℕ) → start ≤ end → count ≤ end - start → slice_range buffer (start + count) end ≡ drop count (slice_range buffer start end)
without_first count start end buffer order h =
    let n : ℕ = end - start - count in
    let split : count + n ≡ end - start = omega arith in
    let size : end - (start + count) ≡ n = omega arith in
    (λ i. take (size i) (drop (start + count) buffer))
    ∙ (ap (take n) (sym (drop-drop count start buffer))
    ∙ (sym (drop-take count n (drop start buffer))
    ∙ ap (λ (k : ℕ). drop count (take k (drop start buffer))) split))
