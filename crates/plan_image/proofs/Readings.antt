-- Bytes are the image of one low bound and three plans at most.
use Rattle.std.proofs.Common.{◌≡◌, ℕ, suc, ◌+◌, ◌*◌, ◌<◌, ◌≤◌, ◌^◌, ◌==◌, true, false, if◌then◌else◌, List, [], ◌∷◌, ◌++◌, length, take, drop, slice_index, inl, inr, refl, sym, ap, ◌∙◌, arith}
use Rattle.std.specs.Prelude.{flat_map, Some, None}
use Rattle.std.specs.Int.{w16, w32, w64, to_le_bytes, from_le_bytes, cast_signed, cast_unsigned}
use Rattle.std.proofs.Math.Facts.{Fits-of_z}
use Rattle.std.proofs.lemmas.Int.{to_z-of_z}
use Rattle.std.proofs.lemmas.Nat.{from_le_bytes-to_le_bytes_2, from_le_bytes-to_le_bytes_4, from_le_bytes-to_le_bytes_8}
use Rattle.std.proofs.lemmas.List.{length-append, append_assoc, append-nil}
use Rattle.plan_items.specs.declared.items.Item.{Item}
use Rattle.plan_items.specs.Kinds.{limit_of}
use Rattle.plan_items.specs.Validation.{item_fault, plan_fault}
use Rattle.plan_items.proofs.PlanFaults.{plan_fault-IsValid, IsValid-plan_fault, plan_fault-whole, whole_fault-empty}
use Rattle.plan_items.specs.declared.faults.PlanFault.{PlanFault}
use Rattle.std.proofs.lemmas.List.Elements.{All-nil}
use Rattle.plan_image.specs.Plans.{Plans, IsHoldable}
use Rattle.plan_image.specs.Image.{word, item_bytes, plan_bytes, image, ItemInRange, InRange, IsImageOf, IsImage, most_bytes}
use Rattle.plan_image.proofs.Items.{length-items}

-- a word's bytes are those of one number
pub word_16 : (a b : ℕ) → a < 2 ^ 16 → b < 2 ^ 16 → from_le_bytes w16 (to_le_bytes w16 a) ≡ from_le_bytes w16 (to_le_bytes w16 b) → a ≡ b
word_16 a b small_a small_b e = sym (from_le_bytes-to_le_bytes_2 a small_a) ∙ e ∙ from_le_bytes-to_le_bytes_2 b small_b

pub word_32 : (a b : ℕ) → a < 2 ^ 32 → b < 2 ^ 32 → from_le_bytes w32 (word a) ≡ from_le_bytes w32 (word b) → a ≡ b
word_32 a b small_a small_b e = sym (from_le_bytes-to_le_bytes_4 a small_a) ∙ e ∙ from_le_bytes-to_le_bytes_4 b small_b

pub word_64 : (a b : ℕ) → a < 2 ^ 64 → b < 2 ^ 64 → from_le_bytes w64 (to_le_bytes w64 a) ≡ from_le_bytes w64 (to_le_bytes w64 b) → a ≡ b
word_64 a b small_a small_b e = sym (from_le_bytes-to_le_bytes_8 a small_a) ∙ e ∙ from_le_bytes-to_le_bytes_8 b small_b

four_words : (p q : List ℕ) → length p ≡ 4 → length q ≡ 4 → slice_index p 0 ≡ slice_index q 0 → slice_index p 1 ≡ slice_index q 1
    → slice_index p 2 ≡ slice_index q 2 → slice_index p 3 ≡ slice_index q 3 → p ≡ q
four_words (a ∷ b ∷ c ∷ d ∷ []) (e ∷ f ∷ g ∷ h ∷ []) np nq i j k l = rw (i, j, k, l) refl
four_words p q np nq i j k l = absurd (omega (arith, np, nq))

-- an item's bytes are those of one item
pub item_same : (a b : Item) → ItemInRange a → ItemInRange b → item_bytes a ≡ item_bytes b → a ≡ b
unfolding item_bytes
item_same a b ra rb e =
    let part : (at : ℕ) → at < 4 → slice_index a.p at < 2 ^ 32 = λ at h. ra.words at 0 (omega (arith, ra.four, h)) in
    let part_b : (at : ℕ) → at < 4 → slice_index b.p at < 2 ^ 32 = λ at h. rb.words at 0 (omega (arith, rb.four, h)) in
    let frame : a.frame ≡ b.frame = ap (λ l. slice_index l 0) e in
    let command : a.command ≡ b.command = word_16 a.command b.command ra.command rb.command (ap (λ l. from_le_bytes w16 (drop 1 l)) e) in
    let current : a.current ≡ b.current = ap (λ l. slice_index l 3) e in
    let autocontinue : a.autocontinue ≡ b.autocontinue = ap (λ l. slice_index l 4) e in
    let p : a.p ≡ b.p = four_words a.p b.p ra.four rb.four
    (word_32 (slice_index a.p 0) (slice_index b.p 0) (part 0 (omega arith)) (part_b 0 (omega arith)) (ap (λ l. from_le_bytes w32 (drop 5 l)) e))
    (word_32 (slice_index a.p 1) (slice_index b.p 1) (part 1 (omega arith)) (part_b 1 (omega arith)) (ap (λ l. from_le_bytes w32 (drop 9 l)) e))
    (word_32 (slice_index a.p 2) (slice_index b.p 2) (part 2 (omega arith)) (part_b 2 (omega arith)) (ap (λ l. from_le_bytes w32 (drop 13 l)) e))
    (word_32 (slice_index a.p 3) (slice_index b.p 3) (part 3 (omega arith)) (part_b 3 (omega arith)) (ap (λ l. from_le_bytes w32 (drop 17 l)) e)) in
    let x_word : cast_unsigned w32 a.x ≡ cast_unsigned w32 b.x = word_32 (cast_unsigned w32 a.x) (cast_unsigned w32 b.x) (Fits-of_z ra.x).fits (Fits-of_z rb.x).fits (ap (λ l. from_le_bytes w32 (drop 21 l)) e) in
    let y_word : cast_unsigned w32 a.y ≡ cast_unsigned w32 b.y = word_32 (cast_unsigned w32 a.y) (cast_unsigned w32 b.y) (Fits-of_z ra.y).fits (Fits-of_z rb.y).fits (ap (λ l. from_le_bytes w32 (drop 25 l)) e) in
    let x : a.x ≡ b.x = sym (to_z-of_z w32 a.x ra.x) ∙ ap (λ n. cast_signed w32 n) x_word ∙ to_z-of_z w32 b.x rb.x in
    let y : a.y ≡ b.y = sym (to_z-of_z w32 a.y ra.y) ∙ ap (λ n. cast_signed w32 n) y_word ∙ to_z-of_z w32 b.y rb.y in
    let z : a.z ≡ b.z = word_32 a.z b.z ra.z rb.z (ap (λ l. from_le_bytes w32 (drop 29 l)) e) in
    same_fields a b frame command current autocontinue p x y z
  where
    same_fields : (a b : Item) → a.frame ≡ b.frame → a.command ≡ b.command → a.current ≡ b.current → a.autocontinue ≡ b.autocontinue → a.p ≡ b.p → a.x ≡ b.x → a.y ≡ b.y → a.z ≡ b.z → a ≡ b
    same_fields a b frame command current autocontinue p x y z =
        let there : Item = record { frame = b.frame; command = b.command; current = b.current; autocontinue = b.autocontinue; p = b.p; x = b.x; y = b.y; z = b.z } in
        let here : record { frame = a.frame; command = a.command; current = a.current; autocontinue = a.autocontinue; p = a.p; x = a.x; y = a.y; z = a.z } ≡ there = rw (frame, command, current, autocontinue, p, x, y, z) refl in
        here

tail_in_range : (item : Item) (items : List Item) → InRange (item ∷ items) → InRange items
tail_in_range item items ranges = λ k d below. ranges (suc k) d (omega (arith, below))

first_bytes : (item : Item) (more rest : List ℕ) → take 33 (item_bytes item ++ more ++ rest) ≡ item_bytes item
unfolding item_bytes
first_bytes item more rest = refl

later_bytes : (item : Item) (more rest : List ℕ) → drop 33 (item_bytes item ++ more ++ rest) ≡ more ++ rest
unfolding item_bytes
later_bytes item more rest = refl

-- the bytes of as many items are those of one list, and what is after them is the same
pub items_same : (xs ys : List Item) (r s : List ℕ) → length xs ≡ length ys → InRange xs → InRange ys
    → flat_map item_bytes xs ++ r ≡ flat_map item_bytes ys ++ s → (xs ≡ ys) × (r ≡ s)
items_same [] [] r s size rx ry e = (refl, e)
items_same [] (y ∷ ys) r s size rx ry e = absurd (omega (arith, size))
items_same (x ∷ xs) [] r s size rx ry e = absurd (omega (arith, size))
items_same (x ∷ xs) (y ∷ ys) r s size rx ry e =
    let bytes : item_bytes x ≡ item_bytes y = sym (first_bytes x (flat_map item_bytes xs) r) ∙ ap (λ l. take 33 l) e ∙ first_bytes y (flat_map item_bytes ys) s in
    let more : flat_map item_bytes xs ++ r ≡ flat_map item_bytes ys ++ s = sym (later_bytes x (flat_map item_bytes xs) r) ∙ ap (λ l. drop 33 l) e ∙ later_bytes y (flat_map item_bytes ys) s in
    let head : x ≡ y = item_same x y (rx 0 x (omega arith)) (ry 0 y (omega arith)) bytes in
    let both = items_same xs ys r s (omega (arith, size)) (tail_in_range x xs rx) (tail_in_range y ys ry) more in
    (rw (head, both.0) refl, both.1)

-- the same of a plan's bytes
pub plan_same : (xs ys : List Item) (r s : List ℕ) → length xs < 2 ^ 16 → length ys < 2 ^ 16 → InRange xs → InRange ys
    → plan_bytes xs ++ r ≡ plan_bytes ys ++ s → (xs ≡ ys) × (r ≡ s)
plan_same xs ys r s small_x small_y rx ry e =
    let size : length xs ≡ length ys = word_16 (length xs) (length ys) small_x small_y (ap (λ l. from_le_bytes w16 l) e) in
    items_same xs ys r s size rx ry (ap (λ l. drop 2 l) e)

limit_small : (kind : ℕ) → limit_of kind ≤ 1000
limit_small kind = elim (kind == 0) as (λ b. (if b then 1000 else if kind == 1 then 200 else 50) ≤ 1000) [
  | true ↦ omega arith
  | false ↦ elim (kind == 1) as (λ b. (if b then 200 else 50) ≤ 1000) [ true ↦ omega arith | false ↦ omega arith ]
]

-- a plan that may be held is no longer than its kind allows, and has no fault
pub holdable_len : (kind : ℕ) (items : List Item) → IsHoldable kind items → length items ≤ limit_of kind
holdable_len kind items (inl empty) = rw empty (omega arith)
holdable_len kind items (inr valid) = valid.within

pub holdable_short : (kind : ℕ) (items : List Item) → IsHoldable kind items → length items ≤ 1000
holdable_short kind items holdable = omega (arith, holdable_len kind items holdable, limit_small kind)

holdable_sound : (kind : ℕ) (items : List Item) → IsHoldable kind items → plan_fault kind items ≡ None
holdable_sound kind items (inl empty) =
    rw empty (plan_fault-whole kind [] (All-nil (λ item. item_fault kind item ≡ None)) ∙ whole_fault-empty kind)
holdable_sound kind items (inr valid) = plan_fault-IsValid kind items valid

-- and one that is short enough and has no fault may be held
pub sound_holdable : (kind : ℕ) (items : List Item) → length items ≤ limit_of kind → plan_fault kind items ≡ None → IsHoldable kind items
sound_holdable kind [] short sound = inl refl
sound_holdable kind (item ∷ items) short sound = inr (IsValid-plan_fault kind (item ∷ items) (omega arith) short sound)

-- the number of items at the start of a plan's bytes
pub count_of : (kind : ℕ) (bytes head : List ℕ) (count : ℕ) (items : List Item) (rest : List ℕ) → count < 2 ^ 16 → IsHoldable kind items
    → to_le_bytes w16 count ≡ head → head ≡ take 2 bytes → bytes ≡ plan_bytes items ++ rest → count ≡ length items
count_of kind bytes head count items rest small holdable read front is =
    word_16 count (length items) small (omega (arith, holdable_short kind items holdable)) (ap (λ l. from_le_bytes w16 l) (read ∙ front ∙ ap (λ l. take 2 l) is))

-- and how many bytes stand after it
pub length_of_tail : (bytes tail : List ℕ) (items : List Item) (rest : List ℕ) → tail ≡ drop 2 bytes → bytes ≡ plan_bytes items ++ rest
    → length tail ≡ 33 * length items + length rest
length_of_tail bytes tail items rest back is =
    let cut : tail ≡ flat_map item_bytes items ++ rest = back ∙ ap (λ l. drop 2 l) is in
    omega (arith, ap length cut, length-append (flat_map item_bytes items) rest, length-items items)

-- the plan that was read is that of the bytes
pub whole_plan : (bytes head tail body rest : List ℕ) (count : ℕ) (got : List Item) → bytes ≡ head ++ tail → tail ≡ body ++ rest
    → to_le_bytes w16 count ≡ head → flat_map item_bytes got ≡ body → length got ≡ count → bytes ≡ plan_bytes got ++ rest
whole_plan bytes head tail body rest count got cut again read items size =
    cut ∙ ap (λ l. head ++ l) again ∙ sym (append_assoc head body rest)
    ∙ ap (λ l. l ++ body ++ rest) (sym read ∙ ap (λ n. to_le_bytes w16 n) (sym size))
    ∙ ap (λ l. to_le_bytes w16 (length got) ++ l ++ rest) (sym items)

-- so a plan with a fault is not the one that the bytes could be
pub bad_plan : (kind : ℕ) (bytes : List ℕ) (got : List Item) (rest : List ℕ) (fault : PlanFault) (items : List Item) (after : List ℕ) → length got ≤ limit_of kind → InRange got
    → bytes ≡ plan_bytes got ++ rest → plan_fault kind got ≡ Some fault → IsHoldable kind items → InRange items → bytes ≡ plan_bytes items ++ after → ⊥
bad_plan kind bytes got rest fault items after short ranged is faulty holdable ranges could =
    let small : length got < 2 ^ 16 = omega (arith, short, limit_small kind) in
    let small_too : length items < 2 ^ 16 = omega (arith, holdable_short kind items holdable) in
    let same = plan_same got items rest after small small_too ranged ranges (sym is ∙ could) in
    let none : Some fault ≡ None = sym faulty ∙ ap (λ l. plan_fault kind l) same.0 ∙ holdable_sound kind items holdable in
    absurd (cc)

four_parts : (a b c d : List ℕ) → a ++ b ++ c ++ d ≡ a ++ (b ++ (c ++ (d ++ [])))
four_parts a b c d = simp (append_assoc, append-nil) refl

-- an image in the order in which it is read
pub image_cut : (sys low : ℕ) (plans : Plans) (bytes : List ℕ) → bytes ≡ image sys low plans
    → bytes ≡ (sys ∷ to_le_bytes w64 low) ++ (plan_bytes plans.mission ++ (plan_bytes plans.fence ++ (plan_bytes plans.rally ++ [])))
unfolding image
image_cut sys low plans bytes is =
    is ∙ four_parts (sys ∷ to_le_bytes w64 low) (plan_bytes plans.mission) (plan_bytes plans.fence) (plan_bytes plans.rally)

-- what was read part by part is an image
pub image_whole : (sys low : ℕ) (plans : Plans) (bytes r0 r1 r2 r3 : List ℕ) → bytes ≡ (sys ∷ to_le_bytes w64 low) ++ r0 → r0 ≡ plan_bytes plans.mission ++ r1
    → r1 ≡ plan_bytes plans.fence ++ r2 → r2 ≡ plan_bytes plans.rally ++ r3 → r3 ≡ [] → bytes ≡ image sys low plans
unfolding image
image_whole sys low plans bytes r0 r1 r2 r3 e0 e1 e2 e3 e4 =
    e0 ∙ ap (λ l. (sys ∷ to_le_bytes w64 low) ++ l) (e1 ∙ ap (λ l. plan_bytes plans.mission ++ l) (e2 ∙ ap (λ l. plan_bytes plans.fence ++ l) (e3 ∙ ap (λ l. plan_bytes plans.rally ++ l) e4)))
    ∙ sym (four_parts (sys ∷ to_le_bytes w64 low) (plan_bytes plans.mission) (plan_bytes plans.fence) (plan_bytes plans.rally))

-- the bytes after the header, and after a plan, are the same in each reading
pub after_header : (sys a b : ℕ) (bytes r s : List ℕ) → a < 2 ^ 48 → b < 2 ^ 48 → bytes ≡ (sys ∷ to_le_bytes w64 a) ++ r → bytes ≡ (sys ∷ to_le_bytes w64 b) ++ s → (a ≡ b) × (r ≡ s)
after_header sys a b bytes r s small_a small_b here there =
    let e : (sys ∷ to_le_bytes w64 a) ++ r ≡ (sys ∷ to_le_bytes w64 b) ++ s = sym here ∙ there in
    (word_64 a b (omega (arith, small_a)) (omega (arith, small_b)) (ap (λ l. from_le_bytes w64 (drop 1 l)) e), ap (λ l. drop 9 l) e)

pub after_plan : (kind : ℕ) (xs ys : List Item) (bytes r s : List ℕ) → IsHoldable kind xs → IsHoldable kind ys → InRange xs → InRange ys
    → bytes ≡ plan_bytes xs ++ r → bytes ≡ plan_bytes ys ++ s → (xs ≡ ys) × (r ≡ s)
after_plan kind xs ys bytes r s hx hy rx ry here there =
    plan_same xs ys r s (omega (arith, holdable_short kind xs hx)) (omega (arith, holdable_short kind ys hy)) rx ry (sym here ∙ there)

-- so the bytes are the image of one low bound and three plans at most
pub image_same : (sys a b : ℕ) (p q : Plans) (bytes : List ℕ) → IsImageOf sys a p bytes → IsImageOf sys b q bytes → (a ≡ b) × (p ≡ q)
image_same sys a b p q bytes ip iq =
    let head = after_header sys a b bytes _ _ ip.below iq.below (image_cut sys a p bytes ip.encoded) (image_cut sys b q bytes iq.encoded) in
    let mission = after_plan 0 p.mission q.mission _ _ _ ip.holdable.mission iq.holdable.mission ip.mission_in_range iq.mission_in_range refl head.1 in
    let fence = after_plan 1 p.fence q.fence _ _ _ ip.holdable.fence iq.holdable.fence ip.fence_in_range iq.fence_in_range refl mission.1 in
    let rally = after_plan 2 p.rally q.rally _ _ _ ip.holdable.rally iq.holdable.rally ip.rally_in_range iq.rally_in_range refl fence.1 in
    (head.0, same_plans p q mission.0 fence.0 rally.0)
  where
    same_plans : (p q : Plans) → p.mission ≡ q.mission → p.fence ≡ q.fence → p.rally ≡ q.rally → p ≡ q
    same_plans p q mission fence rally =
        let here : record { mission = p.mission; fence = p.fence; rally = p.rally } ≡ record { mission = q.mission; fence = q.fence; rally = q.rally } = rw (mission, fence, rally) refl in
        here

-- how long an image is
length-plan : (items : List Item) → length (plan_bytes items) ≡ 2 + 33 * length items
length-plan items = omega (arith, length-items items)

pub length-image : (sys low : ℕ) (plans : Plans) → length (image sys low plans) ≡ 15 + 33 * (length plans.mission + length plans.fence + length plans.rally)
unfolding image
length-image sys low plans =
    let m = plan_bytes plans.mission in
    let f = plan_bytes plans.fence in
    let r = plan_bytes plans.rally in
    let head = sys ∷ to_le_bytes w64 low in
    omega (arith, length-append (head ++ m ++ f) r, length-append (head ++ m) f, length-append head m, length-plan plans.mission, length-plan plans.fence, length-plan plans.rally)

pub image_short : (sys low : ℕ) (plans : Plans) (bytes : List ℕ) → IsImageOf sys low plans bytes → (15 ≤ length bytes) × (length bytes ≤ most_bytes)
image_short sys low plans bytes is =
    let size : length bytes ≡ 15 + 33 * (length plans.mission + length plans.fence + length plans.rally) = ap length is.encoded ∙ length-image sys low plans in
    let m : length plans.mission ≤ 1000 = holdable_len 0 plans.mission is.holdable.mission in
    let f : length plans.fence ≤ 200 = holdable_len 1 plans.fence is.holdable.fence in
    let r : length plans.rally ≤ 50 = holdable_len 2 plans.rally is.holdable.rally in
    (omega (arith, size), omega (arith, size, m, f, r))

-- what is left to read of an image, after the header and after each plan
pub rest_of_header : (sys a : ℕ) (bytes r0 : List ℕ) (i : IsImage sys bytes) → a < 2 ^ 48 → bytes ≡ (sys ∷ to_le_bytes w64 a) ++ r0
    → r0 ≡ plan_bytes i.plans.mission ++ (plan_bytes i.plans.fence ++ (plan_bytes i.plans.rally ++ []))
rest_of_header sys a bytes r0 i small here =
    let same = after_header sys a i.low bytes r0 (plan_bytes i.plans.mission ++ (plan_bytes i.plans.fence ++ (plan_bytes i.plans.rally ++ []))) small i.is.below here (image_cut sys i.low i.plans bytes i.is.encoded) in
    same.1

pub rest_of_mission : (sys : ℕ) (bytes r0 r1 : List ℕ) (i : IsImage sys bytes) (got : List Item) → r0 ≡ plan_bytes i.plans.mission ++ (plan_bytes i.plans.fence ++ (plan_bytes i.plans.rally ++ []))
    → IsHoldable 0 got → InRange got → r0 ≡ plan_bytes got ++ r1 → r1 ≡ plan_bytes i.plans.fence ++ (plan_bytes i.plans.rally ++ [])
rest_of_mission sys bytes r0 r1 i got is holdable ranges read =
    let same = after_plan 0 got i.plans.mission r0 r1 (plan_bytes i.plans.fence ++ (plan_bytes i.plans.rally ++ [])) holdable i.is.holdable.mission ranges i.is.mission_in_range read is in
    same.1

pub rest_of_fence : (sys : ℕ) (bytes r1 r2 : List ℕ) (i : IsImage sys bytes) (got : List Item) → r1 ≡ plan_bytes i.plans.fence ++ (plan_bytes i.plans.rally ++ [])
    → IsHoldable 1 got → InRange got → r1 ≡ plan_bytes got ++ r2 → r2 ≡ plan_bytes i.plans.rally ++ []
rest_of_fence sys bytes r1 r2 i got is holdable ranges read =
    let same = after_plan 1 got i.plans.fence r1 r2 (plan_bytes i.plans.rally ++ []) holdable i.is.holdable.fence ranges i.is.fence_in_range read is in
    same.1

pub rest_of_rally : (sys : ℕ) (bytes r2 r3 : List ℕ) (i : IsImage sys bytes) (got : List Item) → r2 ≡ plan_bytes i.plans.rally ++ []
    → IsHoldable 2 got → InRange got → r2 ≡ plan_bytes got ++ r3 → r3 ≡ []
rest_of_rally sys bytes r2 r3 i got is holdable ranges read =
    let same = after_plan 2 got i.plans.rally r2 r3 [] holdable i.is.holdable.rally ranges i.is.rally_in_range read is in
    same.1
