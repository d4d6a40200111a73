-- What a disk in memory may leave, and which calls of it fail.
use Rattle.std.specs.Prelude.{◌≡◌, ◌⊎◌, ◌&&◌, ◌||◌, ◌+◌, ◌*◌, ◌/◌, ◌%◌, ◌^◌, ℕ, Bool, false, List, [], ◌∷◌, ◌++◌}
use Rattle.std.specs.Prelude.{length, drop, get_or, nat_le, nat_lt, refl, Some, if◌then◌else◌}
use mathlib.Core.Logic.{inl, inr}
use Rattle.std.specs.List.{list_any}
use Rattle.std.specs.declared.option.Option.{Option}
use Rattle.mav_ports.specs.Calls.{is_listed}
use Rattle.slot_store.specs.Disks.{Elapses}
use Rattle.slot_store.specs.declared.unsynced.Range.{Range}
use Rattle.slot_store.specs.declared.unsynced.Moment.{Moment}

-- the offset is in one of the ranges
abbrev pub is_covered : List Range → ℕ → Bool
is_covered ranges i = list_any (λ (r : Range). nat_le r.start i && nat_lt i r.end) ranges

-- the image has these bytes outside the ranges
pub record IsImage (bytes : List ℕ) (ranges : List Range) (image : List ℕ) : Type 0 where
  pub size : length image ≡ length bytes
  pub outside : (i : ℕ) → is_covered ranges i ≡ false → get_or image i 0 ≡ get_or bytes i 0

-- at one of these moments it was an image of what was there
abbrev pub HadBeen : List Moment → List ℕ → Type 0
HadBeen [] image = ⊥
HadBeen (m ∷ past) image = IsImage m.bytes.items m.ranges.items image ⊎ HadBeen past image

-- what was there is added to the moments before
abbrev pub IsRecorded : List ℕ → List Range → List Moment → List Moment → Type 0
IsRecorded bytes ranges before now = (m : Moment) × (m.bytes.items ≡ bytes) × (m.ranges.items ≡ ranges)
    × (now ≡ before ++ m ∷ [])

-- since that call there was such an image
abbrev pub LeftSince : List ℕ → List Range → List Moment → ℕ → List ℕ → Type 0
LeftSince bytes ranges past t image = IsImage bytes ranges image ⊎ HadBeen (drop t past) image

-- what may be left since any call, from before a call of the disk to after it
abbrev pub TimePasses : List ℕ → List Range → List Moment → List ℕ → List Range → List Moment → Type 0
TimePasses bytes ranges past now_bytes now_ranges now_past =
    Elapses (length past) (length now_past) (LeftSince bytes ranges past) (LeftSince now_bytes now_ranges now_past)
    (IsImage now_bytes now_ranges)

none_left : (past : List Moment) (image : List ℕ) → HadBeen (drop (length past) past) image → ⊥
none_left [] image had = had
none_left (m ∷ past) image had = none_left past image had

-- since the last of them there is what is there now
pub only_image : (past : List Moment) (bytes : List ℕ) (ranges : List Range) (image : List ℕ)
    → IsImage bytes ranges image ⊎ HadBeen (drop (length past) past) image → IsImage bytes ranges image
only_image past bytes ranges image (inl now) = now
only_image past bytes ranges image (inr had) = absurd (none_left past image had)

pub own_image : (bytes : List ℕ) (ranges : List Range) → IsImage bytes ranges bytes
own_image bytes ranges = record { size = refl; outside = λ i clear. refl }

-- this number has come
abbrev pub is_past : Option ℕ → Option ℕ → Bool
is_past (Some stop) (Some call) = nat_le stop call
is_past _ _ = false

-- the call of this number is listed to fail, or it or an earlier one is the first of those that all fail
abbrev pub fails_at : List ℕ → Option ℕ → Option ℕ → Bool
fails_at fails stop call = is_listed fails call || is_past stop call

-- the generator's state after one more number
abbrev pub next_state : ℕ → ℕ
next_state s = (s * 1103515245 + 12345) % 2 ^ 31

-- the byte that is drawn in that state
abbrev pub drawn_byte : ℕ → ℕ
drawn_byte s = (s / 65536) % 256

-- the bytes from this offset on, with those in the ranges drawn one after another
abbrev pub drawn : ℕ → List Range → ℕ → List ℕ → List ℕ
drawn s ranges i [] = []
drawn s ranges i (byte ∷ bytes) =
    if is_covered ranges i then drawn_byte (next_state s) ∷ drawn (next_state s) ranges (i + 1) bytes
    else byte ∷ drawn s ranges (i + 1) bytes
