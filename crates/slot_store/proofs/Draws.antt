-- A drawn image is one that a crash may leave.
use Rattle.std.proofs.Common.{◌≡◌, ◌+◌, ◌<◌, ◌≤◌, if◌then◌else◌, append_assoc, inl, inr, ℕ, zero, suc, Bool, true, false, List, [], ◌∷◌, ◌++◌, drop, length, get_or, refl, sym, ◌∙◌, ap, arith}
use Rattle.std.proofs.lemmas.Bool.{cases_Bool}
use Rattle.std.proofs.lemmas.List.{drop_more, drop_all, append-nil}
use Rattle.slot_store.specs.MemDisks.{IsImage, is_covered, drawn, drawn_byte, next_state}
use Rattle.slot_store.specs.declared.unsynced.Range.{Range}

long : (s : ℕ) (ranges : List Range) (i : ℕ) (bytes : List ℕ) → length (drawn s ranges i bytes) ≡ length bytes
long s ranges i [] = refl
long s ranges i (b ∷ bytes) = elim (cases_Bool (is_covered ranges i)) [
  | inl covered ↦ rw covered (ap suc (long (next_state s) ranges (i + 1) bytes))
  | inr no_range ↦ rw no_range (ap suc (long s ranges (i + 1) bytes))
]

outside : (s : ℕ) (ranges : List Range) (i : ℕ) (bytes : List ℕ) (k : ℕ) → is_covered ranges (i + k) ≡ false → get_or (drawn s ranges i bytes) k 0 ≡ get_or bytes k 0
outside s ranges i [] k clear = refl
outside s ranges i (b ∷ bytes) zero clear =
    let here : is_covered ranges i ≡ false = ap (λ j. is_covered ranges j) (omega arith) ∙ clear in
    rw here refl
outside s ranges i (b ∷ bytes) (suc k) clear =
    let there : is_covered ranges (i + 1 + k) ≡ false = ap (λ j. is_covered ranges j) (omega arith) ∙ clear in
    elim (cases_Bool (is_covered ranges i)) [
      | inl covered ↦ rw covered (outside (next_state s) ranges (i + 1) bytes k there)
      | inr no_range ↦ rw no_range (outside s ranges (i + 1) bytes k there)
    ]

pub drawn_is_image : (s : ℕ) (ranges : List Range) (bytes image : List ℕ) → image ≡ drawn s ranges 0 bytes → IsImage bytes ranges image
drawn_is_image s ranges bytes image is = record {
  size = ap length is ∙ long s ranges 0 bytes;
  outside = λ i clear. ap (λ l. get_or l i 0) is ∙ outside s ranges 0 bytes i (ap (λ j. is_covered ranges j) (omega arith) ∙ clear);
}

-- one byte more, drawn or not
one_step : (e : Bool) (image now : List ℕ) (s t byte : ℕ) (ranges : List Range) (i : ℕ) (rest : List ℕ)
    → now ≡ image ++ (if e then drawn_byte (next_state s) else byte) ∷ [] → t ≡ (if e then next_state s else s)
    → image ++ (if e then drawn_byte (next_state s) ∷ drawn (next_state s) ranges (i + 1) rest else byte ∷ drawn s ranges (i + 1) rest)
    ≡ now ++ drawn t ranges (i + 1) rest
one_step true image now s t byte ranges i rest is next =
    sym (ap (λ u. now ++ drawn u ranges (i + 1) rest) next ∙ ap (λ l. l ++ drawn (next_state s) ranges (i + 1) rest) is ∙ append_assoc image (drawn_byte (next_state s) ∷ []) _)
one_step false image now s t byte ranges i rest is next =
    sym (ap (λ u. now ++ drawn u ranges (i + 1) rest) next ∙ ap (λ l. l ++ drawn s ranges (i + 1) rest) is ∙ append_assoc image (byte ∷ []) _)

pub drawn_step : (whole image now : List ℕ) (s t : ℕ) (e : Bool) (ranges : List Range) (i : ℕ) (bytes : List ℕ) → i < length bytes → e ≡ is_covered ranges i
    → whole ≡ image ++ drawn s ranges i (drop i bytes) → now ≡ image ++ (if e then drawn_byte (next_state s) else get_or bytes i 0) ∷ []
    → t ≡ (if e then next_state s else s) → whole ≡ now ++ drawn t ranges (i + 1) (drop (i + 1) bytes)
drawn_step whole image now s t e ranges i bytes more covered so_far is next =
    so_far ∙ ap (λ l. image ++ drawn s ranges i l) (drop_more bytes i 0 more)
    ∙ ap (λ d. image ++ (if d then drawn_byte (next_state s) ∷ drawn (next_state s) ranges (i + 1) (drop (i + 1) bytes)
    else get_or bytes i 0 ∷ drawn s ranges (i + 1) (drop (i + 1) bytes))) (sym covered)
    ∙ one_step e image now s t (get_or bytes i 0) ranges i (drop (i + 1) bytes) is next

pub all_drawn : (whole image : List ℕ) (s : ℕ) (ranges : List Range) (i : ℕ) (bytes : List ℕ) → length bytes ≤ i
    → whole ≡ image ++ drawn s ranges i (drop i bytes) → image ≡ whole
all_drawn whole image s ranges i bytes end so_far =
    sym (so_far ∙ ap (λ l. image ++ drawn s ranges i l) (drop_all i bytes end) ∙ append-nil image)
