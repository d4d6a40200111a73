-- The frame that carries a message (MAVLink guide, Packet Serialization; Message Signing).
use Rattle.std.specs.Prelude.{ℕ, false, List, [], Option, Some, None}
use Rattle.x25_check.specs.Extras.{extra_of}
use Rattle.field_layout.specs.Payload.{serialised, truncated}
use Rattle.mav_names.specs.declared.names.Stream.{Stream}
use Rattle.mav_frame.specs.Packet.{Packet}
use Rattle.mav_frame.specs.Encoding.{checksum}
use Rattle.mav_messages.specs.declared.messages.Message.{Message}
use Rattle.mav_messages.specs.Messages.{definition_of, values_of}
use Rattle.mav_sign.specs.Signing.{signature_of}

-- the frame of a message, with the truncated payload: its checksum and signature are still open
abbrev pub unsealed_packet : Stream → ℕ → ℕ → Message → Packet
unsealed_packet me seq stamp message = record {
  old = false;
  compat = 0;
  seq = seq;
  from = record { sys = me.sys; comp = me.comp };
  id = (definition_of message).id;
  payload = truncated (serialised (definition_of message) (values_of message));
  check = 0;
  block = Some record { link = me.link; stamp = stamp; sig = [] };
}

-- a CRC_EXTRA that a table has
abbrev pub known_extra : Option ℕ → ℕ
known_extra None = 0
known_extra (Some extra) = extra

abbrev pub sealed_packet : List (ℕ × ℕ) → Packet → Packet
sealed_packet extras packet = record packet { check = checksum packet (known_extra (extra_of packet.id extras)) }

-- signed under the key, on the stream's link
abbrev pub signed_packet : List ℕ → List (ℕ × ℕ) → Stream → ℕ → ℕ → Message → Packet
signed_packet key extras me seq stamp message =
    let packet = sealed_packet extras (unsealed_packet me seq stamp message) in
    record packet {
      block = Some record {
        link = me.link;
        stamp = stamp;
        sig = signature_of key packet me.link stamp;
      };
    }
