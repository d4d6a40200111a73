-- Parts that are put into a chunk.
use Rattle.std.proofs.Common.{◌≡◌, ℕ, zero, suc, ◌+◌, ◌-◌, ◌<◌, ◌≤◌, List, [], ◌∷◌, ◌++◌, length, take, drop, set, get_or, slice_range, refl, sym, ap, ◌∙◌, arith, append_assoc, append-nil, length-take, take-take}
use Rattle.std.proofs.Math.Seq.{take-add, take-append-add, take-set-lt}
use Rattle.std.proofs.lemmas.List.{set-append_right, take_more, take_more_set, get_or-drop, length-drop, length-set}
use Rattle.std.proofs.lemmas.Slice.{take-put_mid}
use borrow.Rule.Slice.PartMut.{put_mid}

-- a prefix of what was put, after what stood before it
pub prefix_put : (at len : ℕ) (chunk new part : List ℕ) → at ≤ length chunk → len ≤ length part → take (at + length part) new ≡ take at chunk ++ part → take (at + len) new ≡ take at chunk ++ take len part
prefix_put at len chunk new part before short put =
    let long : length (take at chunk) ≡ at = omega (arith, length-take at chunk) in
    sym (take-take (at + len) (at + length part) new (omega arith))
    ∙ (ap (take (at + len)) put
    ∙ (ap (λ (n : ℕ). take (n + len) (take at chunk ++ part)) (sym long)
    ∙ take-append-add (take at chunk) part len))

-- the same of a part that is copied
pub part_put : (at k len : ℕ) (chunk part whole : List ℕ) → whole ≡ part → at + length part ≤ length chunk → len ≤ length part → take (at + len) (put_mid at k chunk whole) ≡ take at chunk ++ take len part
part_put at k len chunk part whole same room short =
    prefix_put at len chunk (put_mid at k chunk whole) part (omega arith) short
    (take-put_mid at k chunk whole (at + length part) (ap (λ (ys : List ℕ). at + length ys) (sym same)) (omega arith) ∙ ap (λ (ys : List ℕ). take at chunk ++ ys) same)

-- one more byte of a part is put
put_more : (at from n : ℕ) (new part prefix : List ℕ) → at + n < length new → from + n < length part → take (at + n) new ≡ prefix ++ take n (drop from part) → take (at + (n + 1)) (set new (at + n) (get_or part (from + n) 0)) ≡ prefix ++ take (n + 1) (drop from part)
put_more at from n new part prefix room some put =
    let behind : at + (n + 1) ≡ at + n + 1 = omega arith in
    let byte : List ℕ = get_or part (from + n) 0 ∷ [] in
    let next : take (n + 1) (drop from part) ≡ take n (drop from part) ++ byte =
    take_more (drop from part) n 0 (omega (arith, length-drop from part)) ∙ ap (λ (x : ℕ). take n (drop from part) ++ x ∷ []) (get_or-drop from part n 0) in
    ap (λ (k : ℕ). take k (set new (at + n) (get_or part (from + n) 0))) behind
    ∙ (take_more_set new (at + n) (get_or part (from + n) 0) room
    ∙ (ap (λ (l : List ℕ). l ++ byte) put
    ∙ (append_assoc prefix (take n (drop from part)) byte
    ∙ ap (λ (l : List ℕ). prefix ++ l) (sym next))))

-- eight bytes of a part are put, one after the other
pub eight_put : (at from : ℕ) (chunk part : List ℕ) → at + 8 ≤ length chunk → from + 8 ≤ length part → take (at + 8) (set (set (set (set (set (set (set (set chunk at (get_or part from 0)) (at + 1) (get_or part (from + 1) 0)) (at + 2) (get_or part (from + 2) 0)) (at + 3) (get_or part (from + 3) 0)) (at + 4) (get_or part (from + 4) 0)) (at + 5) (get_or part (from + 5) 0)) (at + 6) (get_or part (from + 6) 0)) (at + 7) (get_or part (from + 7) 0)) ≡ take at chunk ++ slice_range part from (from + 8)
eight_put at from chunk part room some =
    let prefix : List ℕ = take at chunk in
    let all : from + 8 - from ≡ 8 = omega arith in
    let here : at + 0 ≡ at = omega arith in
    let start : from + 0 ≡ from = omega arith in
    let one : List ℕ = set chunk at (get_or part from 0) in
    let put1 : take (at + 1) one ≡ prefix ++ take 1 (drop from part) =
    (λ i. take (at + 1) (set chunk (sym here i) (get_or part (sym start i) 0)))
    ∙ put_more at from 0 chunk part prefix (omega arith) (omega arith) (ap (λ (k : ℕ). take k chunk) here ∙ sym (append-nil prefix)) in
    let two : List ℕ = set one (at + 1) (get_or part (from + 1) 0) in
    let long1 = length-set chunk at (get_or part from 0) in
    let put2 = put_more at from 1 one part prefix (omega (arith, long1)) (omega arith) put1 in
    let three : List ℕ = set two (at + 2) (get_or part (from + 2) 0) in
    let long2 = length-set one (at + 1) (get_or part (from + 1) 0) in
    let put3 = put_more at from 2 two part prefix (omega (arith, long1, long2)) (omega arith) put2 in
    let four : List ℕ = set three (at + 3) (get_or part (from + 3) 0) in
    let long3 = length-set two (at + 2) (get_or part (from + 2) 0) in
    let put4 = put_more at from 3 three part prefix (omega (arith, long1, long2, long3)) (omega arith) put3 in
    let five : List ℕ = set four (at + 4) (get_or part (from + 4) 0) in
    let long4 = length-set three (at + 3) (get_or part (from + 3) 0) in
    let put5 = put_more at from 4 four part prefix (omega (arith, long1, long2, long3, long4)) (omega arith) put4 in
    let six : List ℕ = set five (at + 5) (get_or part (from + 5) 0) in
    let long5 = length-set four (at + 4) (get_or part (from + 4) 0) in
    let put6 = put_more at from 5 five part prefix (omega (arith, long1, long2, long3, long4, long5)) (omega arith) put5 in
    let seven : List ℕ = set six (at + 6) (get_or part (from + 6) 0) in
    let long6 = length-set five (at + 5) (get_or part (from + 5) 0) in
    let put7 = put_more at from 6 six part prefix (omega (arith, long1, long2, long3, long4, long5, long6)) (omega arith) put6 in
    let long7 = length-set six (at + 6) (get_or part (from + 6) 0) in
    put_more at from 7 seven part prefix (omega (arith, long1, long2, long3, long4, long5, long6, long7)) (omega arith) put7
    ∙ ap (λ (k : ℕ). prefix ++ take k (drop from part)) (sym all)

-- three times eight bytes are put, of which some count
pub short_put : (at len : ℕ) (chunk first second third part : List ℕ) (one two : ℕ) → at ≤ length chunk → 24 ≤ length part → len ≤ 24 → take one first ≡ take at chunk ++ slice_range part 0 8 → take two second ≡ take one first ++ slice_range part 8 16 → take (at + 24) third ≡ take two second ++ slice_range part 16 24 → take (at + len) third ≡ take at chunk ++ take len part
short_put at len chunk first second third part one two before some short put1 put2 put3 =
    let prefix : List ℕ = take at chunk in
    let long : length (take 24 part) ≡ 24 = omega (arith, length-take 24 part) in
    let joined : (take 8 part ++ take 8 (drop 8 part)) ++ take 8 (drop 16 part) ≡ take 24 part =
    ap (λ (l : List ℕ). l ++ take 8 (drop 16 part)) (sym (take-add 8 8 part)) ∙ sym (take-add 16 8 part) in
    let whole : take (at + length (take 24 part)) third ≡ prefix ++ take 24 part =
    ap (λ (k : ℕ). take (at + k) third) long
    ∙ (put3
    ∙ (ap (λ (l : List ℕ). l ++ take 8 (drop 16 part)) (put2 ∙ (ap (λ (l : List ℕ). l ++ take 8 (drop 8 part)) put1 ∙ append_assoc prefix (take 8 part) (take 8 (drop 8 part))))
    ∙ (append_assoc prefix (take 8 part ++ take 8 (drop 8 part)) (take 8 (drop 16 part))
    ∙ ap (λ (l : List ℕ). prefix ++ l) joined))) in
    prefix_put at len chunk third (take 24 part) before (omega (arith, long)) whole
    ∙ ap (λ (l : List ℕ). prefix ++ l) (take-take len 24 part short)

-- two elements that are set side by side
two_set : (k : ℕ) (xs : List ℕ) (x y : ℕ) → k + 2 ≤ length xs → set (set xs k x) (k + 1) y ≡ take k xs ++ (x ∷ y ∷ drop (k + 2) xs)
two_set k [] x y inside = absurd (omega arith)
two_set zero (a ∷ []) x y inside = absurd (omega arith)
two_set zero (a ∷ b ∷ xs) x y inside = refl
two_set (suc k) (a ∷ xs) x y inside =
    let once : suc k + 1 ≡ suc (k + 1) = omega arith in
    let twice : suc k + 2 ≡ suc (k + 2) = omega arith in
    rw (once, twice) (ap (λ (l : List ℕ). a ∷ l) (two_set k xs x y (omega arith)))

-- a text that is put after another one, and then two digits at indices of it
pub digits_put : (k at end : ℕ) (old new text : List ℕ) (high low : ℕ) → at ≤ length old → k + 2 ≤ length text → end ≡ at + length text → take end new ≡ take at old ++ text → take end (set (set new (at + k) high) (at + k + 1) low) ≡ take at old ++ (take k text ++ (high ∷ low ∷ drop (k + 2) text))
digits_put k at end old new text high low before some is put =
    let long : length (take at old) ≡ at = omega (arith, length-take at old) in
    let here : at + k - at ≡ k = omega arith in
    let next : at + k + 1 - at ≡ k + 1 = omega arith in
    take-set-lt end (set new (at + k) high) (at + k + 1) low (omega arith)
    ∙ (ap (λ (l : List ℕ). set l (at + k + 1) low) (take-set-lt end new (at + k) high (omega arith) ∙ (ap (λ (l : List ℕ). set l (at + k) high) put
    ∙ set-append_right (take at old) text at (at + k) high long (omega arith)))
    ∙ (set-append_right (take at old) (set text (at + k - at) high) at (at + k + 1) low long (omega arith)
    ∙ ap (λ (l : List ℕ). take at old ++ l) ((λ i. set (set text (here i) high) (next i) low) ∙ two_set k text high low (omega arith))))
