-- The entries of the table.
use Rattle.std.proofs.Common.{◌≡◌, ℕ, zero, suc, ◌+◌, ◌-◌, ◌<◌, Bool, true, ◌&&◌, T, eqb, List, [], ◌∷◌, length, get_or, inl, inr, arith, eq-zero-or-pos, eqb→eq}
use lib.Ieee.Fits.{and_l, and_r}
use Rattle.x25_check.specs.declared.tables.TheConstants.{AFTER}
use Rattle.x25_check.specs.Eights.{zero_byte, zeros}

-- the first entries of a row are registers after so many zero bytes
abbrev are_after : List ℕ → ℕ → ℕ → Bool
are_after row count zero = true
are_after row count (suc n) = eqb (get_or row n 0) (zeros count n) && are_after row count n

-- and so in each row, with one more from row to row
abbrev rows_after : List (List ℕ) → ℕ → Bool
rows_after [] count = true
rows_after (row ∷ rows) count = are_after row (suc count) 256 && rows_after rows (suc count)

entry : (row : List ℕ) (count n index : ℕ) → T (are_after row count n) → index < n → get_or row index 0 ≡ zeros count index
entry row count zero index t h = absurd (omega arith)
entry row count (suc n) index t h =
    elim (eq-zero-or-pos (n - index)) [
      | inl z ↦ let e : index ≡ n = omega arith in rw e (eqb→eq _ _ (and_l _ (are_after row count n) t))
      | inr g ↦ entry row count n index (and_r _ (are_after row count n) t) (omega arith)
    ]

in_row : (rows : List (List ℕ)) (d : List ℕ) (count k index : ℕ) → T (rows_after rows count) → k < length rows → index < 256 → get_or (get_or rows k d) index 0 ≡ zeros (suc (count + k)) index
in_row [] d count k index t h small = absurd (omega arith)
in_row (row ∷ rows) d count zero index t h small =
    let e : count + 0 ≡ count = omega arith in
    rw e (entry row (suc count) 256 index (and_l _ (rows_after rows (suc count)) t) small)
in_row (row ∷ rows) d count (suc k) index t h small =
    let e : count + suc k ≡ suc count + k = omega arith in
    rw e (in_row rows d (suc count) k index (and_r (are_after row (suc count) 256) _ t) (omega arith) small)

all_rows : T (rows_after AFTER 0)
unfolding zero_byte
all_rows = tt

pub table_entry : (d : List ℕ) (k index : ℕ) → k < 8 → index < 256 → get_or (get_or AFTER k d) index 0 ≡ zeros (k + 1) index
table_entry d k index inside small =
    let e : suc (0 + k) ≡ k + 1 = omega arith in
    rw (← e) (in_row AFTER d 0 k index all_rows inside small)
