-- Frames of outside programs, computed from the definitions alone.
use Rattle.std.proofs.Common.{◌≡◌, ℕ, List, [], ◌∷◌, ◌++◌, length, map, take, drop, false, true, refl}
use Rattle.std.specs.Prelude.{Some, None, Option}
use Rattle.std.specs.List.{range_with_len}
use Rattle.x25_check.specs.Check.{after_byte}
use Rattle.x25_check.specs.Extras.{extra_of}
use Rattle.mav_names.specs.declared.names.Name.{Name}
use Rattle.mav_frame.specs.Packet.{Packet, SignatureBlock}
use Rattle.mav_frame.specs.Encoding.{checksum, encoding}
use Rattle.mav_frame.specs.Looks.{look_of}
use Rattle.mav_frame.specs.FinalParse.{final_parse}
use Rattle.mav_frame.specs.declared.looks.Look.TheVariants.{Frame, NotHere, More}
use Rattle.mav_frame.specs.declared.looks.Why.TheVariants.{NotStx, UnknownFlag, UnknownId, BadCheck, Short}
use Rattle.mav_frame.specs.declared.events.Event.TheVariants.{Frame as FrameEvent, Skipped}

-- the published CRC_EXTRA of HEARTBEAT and of MISSION_CURRENT
abbrev pub extras : List (ℕ × ℕ)
extras = (0, 50) ∷ (42, 28) ∷ []

pub extras_found : map (λ id. extra_of id ((0, 50) ∷ (44, 221) ∷ (73, 38) ∷ [])) (0 ∷ 44 ∷ 73 ∷ 45 ∷ []) ≡ Some 50 ∷ Some 221 ∷ Some 38 ∷ None ∷ []
extras_found = refl

abbrev pub node : ℕ → ℕ → Name
node sys comp = record { sys = sys; comp = comp }

-- ---- HEARTBEAT and MISSION_CURRENT of node 1.1, as captures have them

abbrev pub heartbeat_bytes : List ℕ
heartbeat_bytes =
    0xFD ∷ 0x09 ∷ 0x00 ∷ 0x00 ∷ 0x00 ∷ 0x01 ∷ 0x01 ∷ 0x00 ∷ 0x00 ∷ 0x00 ∷ 0x00 ∷ 0x00 ∷ 0x00 ∷ 0x00 ∷ 0x02 ∷
    0x03 ∷ 0x51 ∷ 0x04 ∷ 0x03 ∷ 0xE7 ∷ 0x1E ∷ []

abbrev pub current_bytes : List ℕ
current_bytes = 0xFD ∷ 0x01 ∷ 0x00 ∷ 0x00 ∷ 0x01 ∷ 0x01 ∷ 0x01 ∷ 0x2A ∷ 0x00 ∷ 0x00 ∷ 0x00 ∷ 0x2F ∷ 0x49 ∷ []

abbrev pub empty_current_bytes : List ℕ
empty_current_bytes = 0xFD ∷ 0x00 ∷ 0x00 ∷ 0x00 ∷ 0x01 ∷ 0x01 ∷ 0x01 ∷ 0x2A ∷ 0x00 ∷ 0x00 ∷ 0x2D ∷ 0x85 ∷ []

-- the same HEARTBEAT, signed by Python's hashlib under the key of the bytes 0 to 31, with link 0 and timestamp 1
abbrev pub signed_heartbeat_bytes : List ℕ
signed_heartbeat_bytes =
    0xFD ∷ 0x09 ∷ 0x01 ∷ 0x00 ∷ 0x00 ∷ 0x01 ∷ 0x01 ∷ 0x00 ∷ 0x00 ∷ 0x00 ∷ 0x00 ∷ 0x00 ∷ 0x00 ∷ 0x00 ∷ 0x02 ∷
    0x03 ∷ 0x51 ∷ 0x04 ∷ 0x03 ∷ 0x00 ∷ 0xE6 ∷ 0x00 ∷ 0x01 ∷ 0x00 ∷ 0x00 ∷ 0x00 ∷ 0x00 ∷ 0x00 ∷ 0x1C ∷ 0x44 ∷
    0xB1 ∷ 0x0F ∷ 0x2D ∷ 0xBB ∷ []

-- ---- the frames

abbrev pub sealed : Packet → ℕ → Packet
sealed packet extra = record packet { check = checksum packet extra }

abbrev heartbeat_with : Option SignatureBlock → Packet
heartbeat_with block = record {
  old = false;
  compat = 0;
  seq = 0;
  from = node 1 1;
  id = 0;
  payload = 0 ∷ 0 ∷ 0 ∷ 0 ∷ 2 ∷ 3 ∷ 81 ∷ 4 ∷ 3 ∷ [];
  check = 0;
  block = block;
}

abbrev pub heartbeat : Packet
heartbeat = sealed (heartbeat_with None) 50

abbrev pub signed_heartbeat : Packet
signed_heartbeat =
    sealed (heartbeat_with (Some record { link = 0; stamp = 1; sig = 0x1C ∷ 0x44 ∷ 0xB1 ∷ 0x0F ∷ 0x2D ∷ 0xBB ∷ [] })) 50

abbrev current_with : List ℕ → Packet
current_with payload =
    sealed (record { old = false; compat = 0; seq = 1; from = node 1 1; id = 42; payload = payload; check = 0; block = None }) 28

-- ---- their bytes

pub encodings :
    map encoding (heartbeat ∷ signed_heartbeat ∷ current_with (0 ∷ []) ∷ current_with [] ∷ []) ≡
    heartbeat_bytes ∷ signed_heartbeat_bytes ∷ current_bytes ∷ empty_current_bytes ∷ []
unfolding after_byte
encodings = refl

-- the longest frame: a payload of the bytes 1 to 255, written by hand around it
abbrev longest : Packet
longest = sealed
    (record {
      old = false;
      compat = 0xA5;
      seq = 255;
      from = node 255 190;
      id = 42;
      payload = range_with_len 1 255;
      check = 0;
      block = Some record { link = 7; stamp = 0xFFFFFFFFFFFF; sig = 1 ∷ 2 ∷ 3 ∷ 4 ∷ 5 ∷ 6 ∷ [] };
    })
    28

pub longest_encoding : encoding longest ≡
    0xFD ∷ 255 ∷ 1 ∷ 0xA5 ∷ 255 ∷ 255 ∷ 190 ∷ 42 ∷ 0 ∷ 0 ∷ range_with_len 1 255 ++
    0xBE ∷ 0xEF ∷ 7 ∷ 255 ∷ 255 ∷ 255 ∷ 255 ∷ 255 ∷ 255 ∷ 1 ∷ 2 ∷ 3 ∷ 4 ∷ 5 ∷ 6 ∷ []
unfolding after_byte
longest_encoding = refl

pub longest_length : length (encoding longest) ≡ 280
unfolding after_byte
longest_length = refl

-- ---- what is at the start of bytes

abbrev corrupt_bytes : List ℕ
corrupt_bytes = take 12 heartbeat_bytes ++ 1 ∷ drop 13 heartbeat_bytes

pub frames_seen :
    map (look_of extras false) (heartbeat_bytes ∷ signed_heartbeat_bytes ∷ empty_current_bytes ∷ []) ≡
    Frame heartbeat 21 ∷ Frame signed_heartbeat 34 ∷ Frame (current_with []) 12 ∷ []
unfolding after_byte
frames_seen = refl

pub others_seen :
    map (look_of extras false)
    ([] ∷ (0xFE ∷ []) ∷ (0xFD ∷ 255 ∷ []) ∷ (0xFD ∷ 255 ∷ 3 ∷ []) ∷ take 3 heartbeat_bytes ∷
    (0xFD ∷ 0 ∷ 0 ∷ 0 ∷ 0 ∷ 1 ∷ 1 ∷ 255 ∷ 255 ∷ 255 ∷ []) ∷ take 10 heartbeat_bytes ∷ take 10 signed_heartbeat_bytes ∷ corrupt_bytes ∷ []) ≡
    More 3 ∷ NotHere NotStx ∷ More 1 ∷ NotHere UnknownFlag ∷ More 7 ∷ NotHere UnknownId ∷ More 11 ∷ More 24 ∷ NotHere BadCheck ∷ []
unfolding after_byte
others_seen = refl

-- ---- the same HEARTBEAT as a frame of MAVLink 1, as captures have it, when such frames are read and when they aren't

abbrev pub old_heartbeat_bytes : List ℕ
old_heartbeat_bytes =
    0xFE ∷ 0x09 ∷ 0x00 ∷ 0x01 ∷ 0x01 ∷ 0x00 ∷ 0x00 ∷ 0x00 ∷ 0x00 ∷ 0x00 ∷ 0x02 ∷ 0x03 ∷ 0x51 ∷ 0x04 ∷ 0x03 ∷ 0x7D ∷ 0xDD ∷ []

abbrev pub old_heartbeat : Packet
old_heartbeat = sealed (record (heartbeat_with None) { old = true }) 50

pub old_encoding : encoding old_heartbeat ≡ old_heartbeat_bytes
unfolding after_byte
old_encoding = refl

abbrev corrupt_old_bytes : List ℕ
corrupt_old_bytes = take 16 old_heartbeat_bytes ++ 0 ∷ []

pub old_frames_seen :
    map (look_of extras true)
    (old_heartbeat_bytes ∷ corrupt_old_bytes ∷ (0xFE ∷ []) ∷ take 6 old_heartbeat_bytes ∷ (0xFE ∷ 0 ∷ 0 ∷ 1 ∷ 1 ∷ 1 ∷ []) ∷ heartbeat_bytes ∷ []) ≡
    Frame old_heartbeat 17 ∷ NotHere BadCheck ∷ More 5 ∷ More 11 ∷ NotHere UnknownId ∷ Frame heartbeat 21 ∷ []
unfolding after_byte
old_frames_seen = refl

pub old_frames_unread : look_of extras false old_heartbeat_bytes ≡ NotHere NotStx
old_frames_unread = refl

-- ---- a stream of two frames and garbage

pub stream_parsed :
    final_parse extras false (0 ∷ heartbeat_bytes ++ current_bytes ++ 0xFD ∷ 0 ∷ 2 ∷ 0xFD ∷ []) ≡
    Skipped 0 NotStx ∷ FrameEvent heartbeat ∷ FrameEvent (current_with (0 ∷ [])) ∷ Skipped 0xFD UnknownFlag ∷ Skipped 0 NotStx ∷
    Skipped 2 NotStx ∷ Skipped 0xFD Short ∷ []
unfolding after_byte
stream_parsed = refl
