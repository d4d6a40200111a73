-- Frames in one list of bytes.
use Rattle.std.specs.Prelude.{ℕ, ◌≡◌, ◌+◌, ◌≤◌, List, ◌++◌, length, slice_range, map, All}
use Rattle.mav_frame.specs.Packet.{Packet}
use Rattle.mav_frame.specs.Raw.{IsFrame, packet_in}
use Rattle.mav_router.specs.declared.spans.Span.{Span}
use Rattle.mav_router.specs.declared.page.Head.{Head}
use Rattle.mav_router.specs.declared.entries.Entry.{Entry}
use Rattle.mav_router.specs.declared.found.FoundFrame.{FoundFrame}
use Rattle.mav_router.specs.Found.{Judged}

abbrev pub packet_of : List ℕ → Span → Packet
packet_of bytes span = packet_in (slice_range bytes span.start span.end)

-- the bytes in a span encode a frame
pub record Holds (bytes : List ℕ) (span : Span) : Type 0 where
  pub order : span.start ≤ span.end
  pub within : span.end ≤ length bytes
  pub frame : IsFrame (slice_range bytes span.start span.end)
  pub short : length (slice_range bytes span.start span.end) ≤ 280

-- the span of bytes that are appended
abbrev pub after_bytes : List ℕ → List ℕ → Span
after_bytes bytes more = record { start = length bytes; end = length bytes + length more }

-- the bytes of a frame were appended, and are in a span
pub record Appends (before after : List ℕ) (span : Span) (packet : Packet) : Type 0 where
  pub more : List ℕ
  pub goes : after ≡ before ++ more
  pub span_is : span ≡ after_bytes before more
  pub frame : IsFrame more
  pub packet_is : packet_in more ≡ packet
  pub short : length more ≤ 280

-- the entry of a journal
abbrev pub entry_of : List ℕ → Head → Entry
entry_of bytes head = record {
  port = head.outcome.port;
  frame = packet_of bytes head.span;
  admit = head.outcome.admit;
  ways = head.outcome.ways;
}

-- those of all of its heads
abbrev pub entries_of : List ℕ → List Head → List Entry
entries_of bytes heads = map (entry_of bytes) heads

-- the frame of each is in the bytes
abbrev pub AreHeld : List ℕ → List Head → Type 0
AreHeld bytes heads = All (λ (head : Head). Holds bytes head.span) heads

-- the frame that was found, with its judgement
abbrev pub judged_of : List ℕ → FoundFrame → Judged
judged_of bytes found = record { frame = packet_of bytes found.span; judgement = found.judgement }

abbrev pub AreFound : List ℕ → List FoundFrame → Type 0
AreFound bytes found = All (λ (one : FoundFrame). Holds bytes one.span) found
