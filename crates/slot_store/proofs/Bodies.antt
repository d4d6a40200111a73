-- A slot's bytes without its flag: how they are put together, and what they say where they stand.
use Rattle.std.proofs.Common.{◌≡◌, ◌≤◌, ◌+◌, ◌-◌, ℕ, List, [], ◌∷◌, ◌++◌, take, length, min, slice_set, refl, ◌∙◌, ap, arith}
use Rattle.std.specs.Int.{w64, from_le_bytes}
use Rattle.std.proofs.lemmas.List.{length-append, length-set, take_more_set, take_all}
use Rattle.std.proofs.lemmas.Nat.{from_le_bytes-to_le_bytes_8}
use Rattle.std.proofs.lemmas.Slice.{take-put_mid}
use borrow.Rule.Slice.PartMut.{put_mid, post_of}
use Rattle.slot_store.specs.Disks.{bytes_at}
use Rattle.slot_store.specs.Layout.{header_at, stored_at, slot_body}
use Rattle.slot_store.proofs.Images.{part_of, one_of}

-- the three parts, one after another
pub filled : (g : ℕ) (body le bytes : List ℕ) → length body ≡ 65545 → length le ≡ 8
    → take (9 + length bytes) (put_mid 9 (9 + length bytes - 9) (put_mid 1 8 (slice_set body 0 g) le) bytes) ≡ g ∷ le ++ bytes
filled g body le bytes room eight =
    let first = slice_set body 0 g in
    let size : length first ≡ 65545 = length-set body 0 g ∙ room in
    let head : take 1 first ≡ g ∷ [] = take_more_set body 0 g (omega (arith, room)) in
    let second = put_mid 1 8 first le in
    let long : 9 ≤ length second =
    omega (arith, eight, ap length head, length-append (take 1 first) (le ++ post_of 1 8 first), length-append le (post_of 1 8 first)) in
    take-put_mid 9 (9 + length bytes - 9) second bytes (9 + length bytes) refl long
    ∙ ap (λ l. l ++ bytes) (take-put_mid 1 8 first le 9 (omega (arith, eight)) (omega (arith, size)) ∙ ap (λ l. l ++ le) head)

module _ (at g : ℕ) (bytes c : List ℕ) (fits : length bytes ≤ 65536) (is : bytes_at (at + 1) (length (slot_body g bytes)) c ≡ slot_body g bytes) where
  long : length (slot_body g bytes) ≡ 9 + length bytes
  long = omega arith

  pub says_generation : (header_at at c).generation ≡ g
  says_generation = one_of (at + 1) (length (slot_body g bytes)) 0 (at + 1) c (slot_body g bytes) (omega arith) is (omega (arith, long))

  pub says_length : (header_at at c).length ≡ length bytes
  says_length =
      ap (λ l. from_le_bytes w64 l) (part_of (at + 1) (length (slot_body g bytes)) 1 8 (at + 2) c (slot_body g bytes) (omega arith) is (omega (arith, long)))
      ∙ from_le_bytes-to_le_bytes_8 (length bytes) (omega (arith, fits))

  pub says_bytes : stored_at at c ≡ bytes
  says_bytes =
      let n : min (header_at at c).length 65536 ≡ length bytes = omega (arith, says_length, fits) in
      ap (λ m. bytes_at (at + 10) m c) n
      ∙ part_of (at + 1) (length (slot_body g bytes)) 9 (length bytes) (at + 10) c (slot_body g bytes) (omega arith) is (omega (arith, long))
      ∙ take_all (length bytes) bytes (omega arith)
