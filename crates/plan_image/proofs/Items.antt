-- The 33 bytes of an item.
use Rattle.std.proofs.Common.{◌≡◌, ℕ, ◌+◌, ◌-◌, ◌*◌, ◌<◌, ◌^◌, ℤ, List, [], ◌∷◌, ◌++◌, length, take, drop, slice_index, slice_range, get_or, to_z, of_z, refl, sym, ap, ◌∙◌, arith}
use Rattle.std.specs.Prelude.{flat_map}
use Rattle.std.specs.Int.{w16, w32, to_le_bytes, cast_signed, cast_unsigned}
use Rattle.std.proofs.lemmas.Int.{of_z-to_z}
use Rattle.std.proofs.lemmas.List.{length-append, take_more, append-nil, flat_map_more}
use Rattle.std.proofs.lemmas.List.Elements.{All-push}
use Rattle.std.proofs.lemmas.Grind.{flat_map-append}
use Rattle.plan_items.specs.declared.items.Item.{Item}
use Rattle.plan_image.specs.Image.{word, item_bytes, ItemInRange, InRange}
use Rattle.plan_image.proofs.Cuts.{joined, one_byte, two_bytes, take_all}

-- the word of a signed number that was read from a word
pub signed_word : (n : ℕ) (z : ℤ) → n < 2 ^ 32 → z ≡ cast_signed w32 n → cast_unsigned w32 (to_z w32 (of_z w32 z)) ≡ n
signed_word n z small is =
    let once : of_z w32 z ≡ n = ap (λ i. cast_unsigned w32 i) is ∙ of_z-to_z w32 n small in
    ap (λ k. cast_unsigned w32 (cast_signed w32 k)) once ∙ of_z-to_z w32 n small

-- an item of which each part is read from its bytes
pub item_whole : (bytes : List ℕ) (item : Item) → length bytes ≡ 33
    → item.frame ≡ slice_index bytes 0 → to_le_bytes w16 item.command ≡ slice_range bytes 1 3
    → item.current ≡ slice_index bytes 3 → item.autocontinue ≡ slice_index bytes 4
    → word (slice_index item.p 0) ≡ slice_range bytes 5 9 → word (slice_index item.p 1) ≡ slice_range bytes 9 13
    → word (slice_index item.p 2) ≡ slice_range bytes 13 17 → word (slice_index item.p 3) ≡ slice_range bytes 17 21
    → word (cast_unsigned w32 item.x) ≡ slice_range bytes 21 25 → word (cast_unsigned w32 item.y) ≡ slice_range bytes 25 29
    → word item.z ≡ slice_range bytes 29 33 → item_bytes item ≡ bytes
unfolding item_bytes
item_whole bytes item size frame command current autocontinue p1 p2 p3 p4 x y z =
    let first : item.frame ∷ [] ≡ take 1 bytes = ap (λ b. b ∷ []) frame ∙ one_byte 0 bytes (omega (arith, size)) in
    let flags : item.current ∷ item.autocontinue ∷ [] ≡ take 2 (drop 3 bytes) =
    ap (λ b. b ∷ item.autocontinue ∷ []) current ∙ ap (λ b. slice_index bytes 3 ∷ b ∷ []) autocontinue ∙ two_bytes 3 bytes (omega (arith, size)) in
    joined 29 4 bytes (joined 25 4 bytes (joined 21 4 bytes (joined 17 4 bytes (joined 13 4 bytes (joined 9 4 bytes
    (joined 5 4 bytes (joined 3 2 bytes (joined 1 2 bytes first command) flags) p1) p2) p3) p4) x) y) z
    ∙ take_all 33 bytes size

pub length-item_bytes : (item : Item) → length (item_bytes item) ≡ 33
unfolding item_bytes
length-item_bytes item = refl

pub length-items : (items : List Item) → length (flat_map item_bytes items) ≡ 33 * length items
length-items [] = refl
length-items (item ∷ items) =
    omega (arith, length-append (item_bytes item) (flat_map item_bytes items), length-item_bytes item, length-items items)

-- one item more that is written
pub write_more : (start now next : List ℕ) (items : List Item) (i : ℕ) (d : Item) → i < length items → now ≡ start ++ flat_map item_bytes (take i items)
    → next ≡ now ++ item_bytes (get_or items i d) → next ≡ start ++ flat_map item_bytes (take (i + 1) items)
write_more start now next items i d inside so_far written =
    written ∙ ap (λ l. l ++ item_bytes (get_or items i d)) so_far ∙ flat_map_more item_bytes start (take i items) (get_or items i d)
    ∙ ap (λ l. start ++ flat_map item_bytes l) (sym (take_more items i d inside))

pub range_more : (items : List Item) (i : ℕ) (d : Item) → i < length items → InRange (take i items) → ItemInRange (get_or items i d) → InRange (take (i + 1) items)
range_more items i d inside so_far here = rw (take_more items i d inside) (All-push ItemInRange (take i items) (get_or items i d) so_far here)

-- one item more that is read
pub read_more : (bytes : List ℕ) (got more : List Item) (item : Item) (i : ℕ) → flat_map item_bytes got ≡ take (33 * i) bytes
    → item_bytes item ≡ slice_range bytes (33 * i) (33 * i + 33) → more ≡ got ++ item ∷ [] → flat_map item_bytes more ≡ take (33 * (i + 1)) bytes
read_more bytes got more item i so_far here put =
    let size : (33 * i + 33) - 33 * i ≡ 33 = omega arith in
    let next : 33 * i + 33 ≡ 33 * (i + 1) = omega arith in
    ap (λ l. flat_map item_bytes l) put ∙ flat_map-append item_bytes got (item ∷ []) ∙ ap (λ l. flat_map item_bytes got ++ l) (append-nil (item_bytes item))
    ∙ joined (33 * i) 33 bytes so_far (here ∙ ap (λ n. take n (drop (33 * i) bytes)) size) ∙ ap (λ n. take n bytes) next
