-- Laws of the texts of frames.
use Rattle.std.specs.Prelude.{◌≡◌, ℕ, List}
use Rattle.field_layout.specs.Definition.{Definition, base_len_of}
use Rattle.field_layout.specs.Payload.{Represents}
use Rattle.mav_frame.specs.Packet.{Packet, FitsFrame}
use Rattle.mav_text.specs.FrameText.{frame_text, frame_text_with, value_bytes}

-- a frame's text is that of the values that its payload represents, of a frame of MAVLink 1 without the bytes past the
-- base fields
abbrev pub ShowsRepresentedValues : Type 0
ShowsRepresentedValues =
    (def : Definition) (packet : Packet) (values : List (List ℕ)) → FitsFrame packet
    → Represents def (value_bytes (base_len_of def) packet) values
    → frame_text def packet ≡ frame_text_with values def packet
