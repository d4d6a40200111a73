-- What is found at a port, before the switch takes it.
use Rattle.std.specs.Prelude.{ℕ, ◌≡◌, ◌<◌, List, ◌++◌, length, take}
use Rattle.mav_frame.specs.Packet.{Packet}
use Rattle.mav_stream.specs.Held.{Held}
use Rattle.mav_router.specs.declared.entries.Entry.{Entry}
use Rattle.mav_router.specs.Journal.{Rules, frames_from}
use Rattle.mav_router.specs.Runs.{Reading, AllRead}
use Rattle.mav_router.specs.Faults.{StopsReading}

-- these frames are all in what a port's reader is to look at, and this is left: once the switch took all of them, all
-- was read, and if it takes only some, reading stops there
pub record FindsAll (held : Held) (skips : ℕ) (left : Held) (later : ℕ) (frames : List Packet) : Type 0 where
  pub reads : (by : Rules) (port : ℕ) (all : List ℕ) (journal after : List Entry)
      → Reading by port all held skips journal → frames_from port after ≡ frames_from port journal ++ frames
      → AllRead by port all left later after
  pub stops : (by : Rules) (port : ℕ) (all : List ℕ) (journal after : List Entry) (count : ℕ)
      → Reading by port all held skips journal → count < length frames
      → frames_from port after ≡ frames_from port journal ++ take count frames
      → StopsReading held.ended by port all after

-- there is a frame in it that isn't taken
abbrev pub FindsUntaken : Held → ℕ → Type 0
FindsUntaken held skips = (by : Rules) (port : ℕ) (all : List ℕ) (journal : List Entry)
    → Reading by port all held skips journal → StopsReading held.ended by port all journal
