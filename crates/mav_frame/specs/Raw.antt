-- Frames as the bytes that encode them.
use Rattle.std.specs.Prelude.{ℕ, ◌≡◌, ◌∷◌, ◌++◌, Bool, true, List}
use Rattle.mav_frame.specs.Numbers.{little_endian}
use Rattle.mav_frame.specs.Packet.{Packet, FitsFrame}
use Rattle.mav_frame.specs.Encoding.{checked_bytes, encoding, stx_of}
use Rattle.mav_frame.specs.Looks.{is_old_at, look_of, packet_at}
use Rattle.mav_frame.specs.declared.looks.Look.TheVariants.{Frame as Found}

-- the frame that the bytes would encode, of the version that the first of them says
unfoldable pub packet_in : List ℕ → Packet
packet_in b = packet_at (is_old_at true b) b

-- some bytes encode a frame
pub record IsFrame (b : List ℕ) : Type 0 where
  pub bytes : b ≡ encoding (packet_in b)
  pub fits : FitsFrame (packet_in b)

-- the bytes of a frame from STX through its checksum
abbrev pub through_checksum : Packet → List ℕ
through_checksum packet = stx_of packet.old ∷ checked_bytes packet ++ little_endian 2 packet.check

-- a frame of that length is found at the start of some bytes, by some table of CRC_EXTRA
pub record StartsFrame (old : Bool) (b : List ℕ) (size : ℕ) : Type 0 where
  pub extras : List (ℕ × ℕ)
  pub found : look_of extras old b ≡ Found (packet_at (is_old_at old b) b) size
