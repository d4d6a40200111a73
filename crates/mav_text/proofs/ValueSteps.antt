-- Texts that are put into a chunk one after another.
use Rattle.std.proofs.Common.{◌≡◌, ℕ, ◌+◌, ◌*◌, ◌≤◌, List, ◌++◌, length, take, ap, arith, length-take, length-append}
use Rattle.field_layout.specs.declared.ty.Ty.{Ty}
use Rattle.field_layout.specs.Types.{element_size}
use Rattle.field_layout.specs.Reading.{word_from}
use Rattle.field_layout.proofs.Decoding.{IsBytes, word_from_bound}
use Rattle.mav_text.specs.FrameText.{number_text}
use Rattle.mav_text.proofs.NumberLengths.{number_length}

-- a text that is put takes as much room as it is long
pub length_put : (now next text : List ℕ) (at end : ℕ) → at ≤ length now → end ≤ length next → take end next ≡ take at now ++ text → end ≡ at + length text
length_put now next text at end inside fits put =
    omega (arith, ap length put, length-take end next, length-take at now, length-append (take at now) text)

-- a number takes at most four bytes for each of its own
pub number_end : (ty : Ty) (payload now next : List ℕ) (offset at end : ℕ) → IsBytes payload → at ≤ length now → end ≤ length next → take end next ≡ take at now ++ number_text ty (word_from payload offset (element_size ty)) → end ≤ at + 4 * element_size ty
number_end ty payload now next offset at end bytes inside fits put =
    let word : ℕ = word_from payload offset (element_size ty) in
    omega (arith, length_put now next (number_text ty word) at end inside fits put, number_length ty word (word_from_bound payload bytes offset (element_size ty)))
