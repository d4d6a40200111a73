-- What goes out at a port, as the bytes of frames that stand together.
use Rattle.std.specs.Prelude.{ℕ, ◌≡◌, ◌≤◌, ◌*◌, List, ◌++◌, length, take, slice_range}
use Rattle.mav_links.specs.Links.{LinkState}
use Rattle.mav_frame.specs.Packet.{Packet}
use Rattle.mav_router.specs.declared.entries.Entry.{Entry}
use Rattle.mav_router.specs.declared.lane.Lane.{Lane}
use Rattle.mav_router.specs.declared.page.Head.{Head}
use Rattle.mav_router.specs.declared.spans.Span.{Span}
use Rattle.mav_router.specs.Journal.{Rules, bytes_of, frames_to}
use Rattle.mav_router.specs.Runs.{Input, Output, HadTurns}
use Rattle.mav_router.specs.Spans.{entries_of}

-- some bytes are those of these frames, of which each has at most 280
pub record Joins (text : List ℕ) (frames : List Packet) : Type 0 where
  pub are : text ≡ bytes_of frames
  pub short : length text ≤ 280 * length frames

-- frames go on by more frames, and these are their bytes
pub record Continues (before after : List Packet) (text : List ℕ) : Type 0 where
  pub frames : List Packet
  pub goes : after ≡ before ++ frames
  pub joined : Joins text frames

-- the bytes of the frames that entries from one index up to another send to a port
abbrev pub IsRun : ℕ → List Entry → ℕ → ℕ → List ℕ → Type 0
IsRun port journal from to text = Continues (frames_to port (take from journal))
    (frames_to port (take to journal)) text

-- they stand in a span
pub record SpansRun (port : ℕ) (bytes : List ℕ) (heads : List Head) (from to : ℕ) (span : Span) : Type 0 where
  pub order : span.start ≤ span.end
  pub within : span.end ≤ length bytes
  pub run : IsRun port (entries_of bytes heads) from to (slice_range bytes span.start span.end)

-- frames were given for a port, and all of them were written to it but for the last ones, which wait with this text
pub record GivenBut (frames : List Packet) (first now : LinkState) (lane : Lane) (text : List ℕ) : Type 0 where
  pub done : List Packet
  pub waiting : List Packet
  pub all : frames ≡ done ++ waiting
  pub joined : Joins text waiting
  pub output : Output done first now lane

-- more entries of a journal were looked through for a port, and what they send there was written to it or waits
pub record LooksOn (port : ℕ) (journal : List Entry) (from to : ℕ) (before after : LinkState) (lane new : Lane)
    (text longer : List ℕ) : Type 0 where
  pub within : to ≤ length journal
  pub given : (first : LinkState) → GivenBut (frames_to port (take from journal)) first before lane text
      → GivenBut (frames_to port (take to journal)) first after new longer

-- the same, and nothing waits
pub record Writes (port : ℕ) (journal : List Entry) (from to : ℕ) (before after : LinkState)
    (lane new : Lane) : Type 0 where
  pub within : to ≤ length journal
  pub output : (first : LinkState) → Output (frames_to port (take from journal)) first before lane
      → Output (frames_to port (take to journal)) first after new

-- nothing of what is read at a port changes
pub record KeepsInput (before after : LinkState) (lane new : Lane) : Type 0 where
  pub input : (rules : Rules) (journal : List Entry) (port : ℕ) (first : LinkState)
      → Input rules journal port first before lane → Input rules journal port first after new
  pub turned : (turns : ℕ) → HadTurns lane turns → HadTurns new turns
