-- What an image of a disk holds. It has two slots, and a slot has a commit flag (1 byte), a generation (1 byte), a
-- length (8 bytes, little-endian) and up to 65,536 bytes.
use Rattle.std.specs.Prelude.{◌≡◌, ◌⊎◌, ◌∷◌, ◌++◌, length, true, false, ◌==◌, ◌&&◌, ◌||◌, ◌+◌, ℕ, Bool, List, [], min}
use Rattle.std.specs.Prelude.{nat_lt, get_or, None, Some, if◌then◌else◌}
use Rattle.std.specs.Int.{w64, from_le_bytes, to_le_bytes}
use Rattle.std.specs.declared.option.Option.{Option}
use Rattle.slot_store.specs.declared.headers.Slot.{Slot}
use Rattle.slot_store.specs.declared.headers.Slot.TheVariants.{First, Second}
use Rattle.slot_store.specs.declared.headers.Header.{Header}
use Rattle.slot_store.specs.declared.headers.Headers.{Headers}
use Rattle.slot_store.specs.Disks.{bytes_at, SameOutside}

-- where a slot begins
abbrev pub start_of : Slot → ℕ
start_of First = 0
start_of Second = 65546

-- what the slot that begins at this offset says of itself: its flag is open if it is 0xA5
abbrev pub header_at : ℕ → List ℕ → Header
header_at at image = record {
  is_open = get_or image at 0 == 165;
  generation = get_or image (at + 1) 0;
  length = from_le_bytes w64 (bytes_at (at + 2) 8 image);
}

abbrev pub headers_of : List ℕ → Headers
headers_of image = record { first = header_at 0 image; second = header_at 65546 image }

-- the generations are 0, 1 and 2, and 0 again
abbrev pub next_generation : ℕ → ℕ
next_generation n = if nat_lt n 2 then n + 1 else 0

-- the slot that holds the contents: the one that is open, or of two the one of the later generation
abbrev pub current : Headers → Option Slot
current h =
    if h.first.is_open then (
    if h.second.is_open && (h.second.generation == next_generation h.first.generation) then Some Second else Some First
    ) else (if h.second.is_open then Some Second else None)

-- no keeper writes this header
abbrev pub is_out_of_range : Header → Bool
is_out_of_range h = h.is_open && (nat_lt 2 h.generation || nat_lt 65536 h.length)

-- no keeper writes these headers
abbrev pub are_foreign : Headers → Bool
are_foreign h =
    (is_out_of_range h.first || is_out_of_range h.second)
    || ((h.first.is_open && h.second.is_open) && (h.first.generation == h.second.generation))

abbrev pub is_foreign : List ℕ → Bool
is_foreign image = are_foreign (headers_of image)

-- the bytes in the slot that begins at this offset
abbrev pub stored_at : ℕ → List ℕ → List ℕ
stored_at at image = bytes_at (at + 10) (min (header_at at image).length 65536) image

abbrev pub stored_in : Option Slot → List ℕ → List ℕ
stored_in None image = []
stored_in (Some slot) image = stored_at (start_of slot) image

-- what an image holds
abbrev pub contents : List ℕ → List ℕ
contents image = stored_in (current (headers_of image)) image

-- the slot that a save writes to, given the current one
abbrev pub spare_beside : Option Slot → Slot
spare_beside (Some First) = Second
spare_beside (Some Second) = First
spare_beside None = First

-- the slot that a save writes to
abbrev pub spare : Headers → Slot
spare h = spare_beside (current h)

-- the generation that a save writes, given the current slot
abbrev pub generation_after : Headers → Option Slot → ℕ
generation_after h (Some First) = next_generation h.first.generation
generation_after h (Some Second) = next_generation h.second.generation
generation_after h None = 0

-- the generation that a save writes
abbrev pub new_generation : Headers → ℕ
new_generation h = generation_after h (current h)

abbrev pub header_of : Headers → Slot → Header
header_of h First = h.first
header_of h Second = h.second

-- with this header in this slot
abbrev pub with_header : Headers → Slot → Header → Headers
with_header h First x = record h { first = x }
with_header h Second x = record h { second = x }

-- a slot's bytes without its flag: what a save writes first
abbrev pub slot_body : ℕ → List ℕ → List ℕ
slot_body generation bytes = generation ∷ to_le_bytes w64 (length bytes) ++ bytes

-- the image, or with another flag in the slot that begins here where that is open
abbrev pub MayClose : ℕ → Bool → List ℕ → List ℕ → Type 0
MayClose at is_open before after = (after ≡ before) ⊎ ((is_open ≡ true) × SameOutside at 1 before after)

-- the image with the flag of this slot closed
pub record Closes (at : ℕ) (before after : List ℕ) : Type 0 where
  pub outside : SameOutside at 1 before after
  pub closed : (header_at at after).is_open ≡ false
