-- What the scanners of the open links hold.
use Rattle.std.specs.Prelude.{ℕ, ◌≡◌, List, drop, slice_set}
use Rattle.mav_stream.specs.Held.{Held}
use Rattle.mav_stream.specs.Progress.{Feeds}

-- the scanner with that index takes so many of these bytes
pub record FeedsAt (index : ℕ) (held : Held) (piece : List ℕ) (took : ℕ) (old new : List Held) : Type 0 where
  pub now : Held
  pub feeds : Feeds 65824 held piece took now
  pub set : new ≡ slice_set old index now

-- so many bytes are taken off from its start
abbrev pub consumed : ℕ → Held → Held
consumed count held = record held { bytes = drop count held.bytes }
