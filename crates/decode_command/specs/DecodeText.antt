-- The text of a parse.
use Rattle.std.specs.Prelude.{ℕ, ◌+◌, if◌then◌else◌, List, [], ◌∷◌, ◌++◌, length, codes, sum_by, Option, Some, None}
use Rattle.std.specs.Str.{bytes_eq}
use Rattle.std.specs.Fmt.{decimal}
use Rattle.field_layout.specs.Definition.{Definition}
use Rattle.mav_profile.specs.Messages.{definition_with}
use Rattle.mav_frame.specs.Packet.{Packet, SignatureBlock}
use Rattle.mav_frame.specs.Encoding.{encoding}
use Rattle.mav_frame.specs.declared.events.Event.{Event}
use Rattle.mav_frame.specs.declared.events.Event.TheVariants.{Frame, Skipped}
use Rattle.mav_text.specs.FrameText.{frame_text, skip_line}
use Rattle.mav_sign.specs.Signing.{signature_of}
use Rattle.decode_command.specs.declared.context.DecodeContext.{DecodeContext}

-- how many bytes an event takes, how many frames it is, and how many skipped bytes
abbrev pub event_size : Event → ℕ
event_size (Frame packet) = length (encoding packet)
event_size (Skipped byte why) = 1

abbrev pub frames_of : Event → ℕ
frames_of (Frame packet) = 1
frames_of (Skipped byte why) = 0

abbrev pub skips_of : Event → ℕ
skips_of (Frame packet) = 0
skips_of (Skipped byte why) = 1

-- whether a signature is that of the key, after a signed frame if there is a key
abbrev pub verdict_text : Option (List ℕ) → Packet → Option SignatureBlock → List ℕ
verdict_text None packet block = []
verdict_text (Some key) packet None = []
verdict_text (Some key) packet (Some block) = if bytes_eq block.sig (signature_of key packet block.link block.stamp)
    then codes " good" else codes " bad"

-- `OFFSET NAME SYS.COMP #SEQ field=value ..`, of MAVLink 1 with ` v1` after the sequence number; a frame of a parse
-- has the id of a message
abbrev pub frame_line : Option Definition → Option (List ℕ) → ℕ → Packet → List ℕ
frame_line None key offset packet = []
frame_line (Some def) key offset packet =
    decimal offset ++ 32 ∷ frame_text def packet ++ (verdict_text key packet packet.block ++ 10 ∷ [])

-- the line of a frame, or of a skipped byte
abbrev pub event_line : DecodeContext → ℕ → Event → List ℕ
event_line known offset (Frame packet) = frame_line (definition_with packet.id known.dialect) known.key offset packet
event_line known offset (Skipped byte why) = skip_line offset byte why

-- the lines of a capture's events or a log's, of which the first is at an offset
abbrev pub lines_at : {E : Type 0} → (line : ℕ → E → List ℕ) (size : E → ℕ) → ℕ → List E → List ℕ
lines_at line size offset [] = []
lines_at line size offset (event ∷ events) = line offset event ++ lines_at line size (offset + size event) events

abbrev pub lines_from : DecodeContext → ℕ → List Event → List ℕ
lines_from known offset events = lines_at (event_line known) event_size offset events

abbrev pub event_lines : DecodeContext → List Event → List ℕ
event_lines known events = lines_from known 0 events

-- sums over events
abbrev pub bytes_in : List Event → ℕ
bytes_in events = sum_by event_size events

abbrev pub frames_in : List Event → ℕ
frames_in events = sum_by frames_of events

abbrev pub skips_in : List Event → ℕ
skips_in events = sum_by skips_of events

-- how many of something were found and how many bytes were skipped: `WHAT N skipped M`
abbrev pub counts_text : List ℕ → ℕ → ℕ → List ℕ
counts_text what found skipped = what ++ (decimal found ++ (codes " skipped " ++ (decimal skipped ++ codes "\n")))

abbrev pub counts_line : ℕ → ℕ → List ℕ
counts_line frames skipped = counts_text (codes "frames ") frames skipped

abbrev pub last_line : List Event → List ℕ
last_line events = counts_line (frames_in events) (skips_in events)

-- the whole text
abbrev pub decode_text : DecodeContext → List Event → List ℕ
decode_text known events = event_lines known events ++ last_line events
