-- A replay over a link: what it is as a link, and what it asks of that one.
use Rattle.std.specs.Prelude.{ℕ, ◌≡◌, ◌+◌, ◌-◌, ◌<◌, ◌≤◌, ◌^◌, Bool, false, true, List, length, [], Option, Some, None}
use Rattle.std.specs.Prelude.{option_map}
use Rattle.std.specs.Io.KnownBytes.{prepend_known}
use Rattle.mav_links.specs.Links.{LinkState}
use Rattle.mav_ports.specs.declared.sources.Got.{Got}
use Rattle.mav_ports.specs.declared.sources.Got.TheVariants.{Bytes, Idle, End, Failed}
use Rattle.log_rows.specs.Frames.{RowsHeld, frames_left}

-- the frames that are left, if the bytes left of the log are known
abbrev pub known_frames : RowsHeld → Option (List ℕ) → Option (List ℕ)
known_frames held log = option_map (frames_left held) log

-- a read has told the end
abbrev pub is_end : Got → Bool
is_end (Bytes count) = false
is_end Idle = false
is_end End = true
is_end Failed = false

-- a replay that holds this, over a link in that state, and whether it has told its end. It tells no places of its Idle
-- answers
abbrev pub replay_state : RowsHeld → LinkState → ℕ → Bool → LinkState
replay_state held link idles over = record {
  left = known_frames held link.left;
  sent = link.sent;
  faults = link.faults;
  idles = idles;
  pauses = None;
  ended = over;
}

-- no bytes are left, if they are known
abbrev pub IsNoneLeft : Option (List ℕ) → Type 0
IsNoneLeft known = (bytes : List ℕ) → known ≡ Some bytes → bytes ≡ []

-- some reads of a link, each of which gave at least one byte or idled: these bytes were taken
pub record Asked (reads : ℕ) (before now : LinkState) : Type 0 where
  pub taken : List ℕ
  pub left : before.left ≡ prepend_known taken now.left
  -- unless the count of Idle answers is at its maximum
  pub fruitless : now.idles < 2 ^ 64 - 1 → reads + before.idles ≤ length taken + now.idles
  pub most : now.idles ≤ before.idles + reads
  pub faults : now.faults ≡ before.faults
