-- What is at the start of the bytes that a scanner holds.
use Rattle.std.specs.Prelude.{ℕ, ◌≡◌, ◌<◌, ◌≤◌, ◌&&◌, nat_lt, Bool, if◌then◌else◌, List, [], ◌∷◌, ◌++◌, length, take}
use Rattle.std.specs.Prelude.{drop, map}
use Rattle.mav_frame.specs.Packet.{Packet}
use Rattle.mav_frame.specs.Encoding.{encoding}
use Rattle.mav_frame.specs.Looks.{frame_size_at, is_old_at, look_of, packet_at}
use Rattle.mav_frame.specs.declared.looks.Look.{Look}
use Rattle.mav_frame.specs.declared.looks.Look.TheVariants.{Frame as Found, NotHere, More}
use Rattle.mav_frame.specs.declared.looks.Why.{Why}
use Rattle.mav_frame.specs.declared.looks.Why.TheVariants.{Short}
use Rattle.mav_frame.specs.declared.events.Event.{Event}
use Rattle.mav_frame.specs.declared.events.Event.TheVariants.{Frame as FrameEvent, Skipped as SkippedEvent}
use Rattle.mav_stream.specs.Held.{Held}
use Rattle.mav_stream.specs.Progress.{Progress, IsWhole}
use Rattle.mav_stream.specs.Skips.{skipped_length}
use Rattle.mav_stream.specs.declared.spans.NextSpan.{NextSpan}
use Rattle.mav_stream.specs.declared.spans.NextSpan.TheVariants.{Frame, Skipped, Need}

-- the frame at the start of the bytes
abbrev pub first_packet : Held → Packet
first_packet held = packet_at (is_old_at held.reads_old held.bytes) held.bytes

-- the result of a look at the bytes; an incomplete frame is skipped once the input has ended
abbrev pub span_by : Look → Held → NextSpan
span_by (Found packet size) held = Frame size
span_by (NotHere why) held = Skipped why (skipped_length why held.extras held.reads_old held.bytes)
span_by (More lacking) held = if held.ended && nat_lt 0 (length held.bytes) then Skipped Short 1 else Need

abbrev pub next_span : Held → NextSpan
next_span held = span_by (look_of held.extras held.reads_old held.bytes) held

-- the event of a byte that is skipped for that reason
abbrev pub skipped_for : Why → ℕ → Event
skipped_for why byte = SkippedEvent byte why

-- the events at the start, and what is held after them
abbrev pub span_events : Held → NextSpan → List Event
span_events held (Frame size) = FrameEvent (first_packet held) ∷ []
span_events held (Skipped why count) = map (skipped_for why) (take count held.bytes)
span_events held Need = []

abbrev pub span_size : NextSpan → ℕ
span_size (Frame size) = size
span_size (Skipped why count) = count
span_size Need = 0

abbrev pub held_after : Held → NextSpan → Held
held_after held span = record held { bytes = drop (span_size span) held.bytes }

-- at Need the events given are the whole parse
abbrev pub IfNeed : NextSpan → Type 0 → Type 0
IfNeed (Frame size) P = Unit {0}
IfNeed (Skipped why count) P = Unit {0}
IfNeed Need P = P

-- a fact if the bytes of an event are at the start
abbrev pub IfEvent : NextSpan → Type 0 → Type 0
IfEvent (Frame size) P = P
IfEvent (Skipped why count) P = P
IfEvent Need P = Unit {0}

-- a fact of a frame at the start, and of its length
abbrev pub IfFrame : NextSpan → (ℕ → Type 0) → Type 0
IfFrame (Frame size) P = P size
IfFrame (Skipped why count) P = Unit {0}
IfFrame Need P = Unit {0}

-- what is at the start of the bytes held, and what follows of it and of the parse so far: a frame's length is that of
-- its encoding; the events given and those at the start are a prefix of the parse; at Need all of it was given, and
-- what is left is less than the longest frame
pub record IsNextSpan (held : Held) (span : NextSpan) : Type 0 where
  pub exact : span ≡ next_span held
  pub within : span_size span ≤ length held.bytes
  pub some : IfEvent span (0 < span_size span)
  pub frame : IfFrame span (λ size. (size ≡ length (encoding (first_packet held)))
      × (size ≡ frame_size_at (is_old_at held.reads_old held.bytes) held.bytes))
  pub progress : (extras : List (ℕ × ℕ)) (reads_old : Bool) (taken : List ℕ) (given : List Event)
      → Progress extras reads_old taken given held
      → Progress extras reads_old taken (given ++ span_events held span) (held_after held span)
  pub whole : (extras : List (ℕ × ℕ)) (reads_old : Bool) (taken : List ℕ) (given : List Event)
      → Progress extras reads_old taken given held → IfNeed span (IsWhole extras reads_old taken given held)
  pub room : IfNeed span (length held.bytes < 280)
