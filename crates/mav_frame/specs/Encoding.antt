-- Which bytes encode a frame (MAVLink guide, MAVLink 2 Packet Format and MAVLink 1 Packet Format).
use Rattle.std.specs.Prelude.{ℕ, ◌≡◌, Bool, true, false, List, [], ◌∷◌, ◌++◌, length, Option, Some, None}
use Rattle.x25_check.specs.Check.{check}
use Rattle.x25_check.specs.Extras.{extra_of}
use Rattle.mav_names.specs.declared.names.Name.{Name}
use Rattle.mav_frame.specs.Numbers.{little_endian}
use Rattle.mav_frame.specs.Packet.{SignatureBlock, Packet}

-- STX, the first byte of a frame
abbrev pub stx_of : Bool → ℕ
stx_of true = 0xFE
stx_of false = 0xFD

-- the incompatibility flags: 0x01 says that a signature block follows
abbrev pub incompat_flags : Option SignatureBlock → ℕ
incompat_flags None = 0
incompat_flags (Some block) = 1

-- the 13 bytes of a signature block
abbrev pub block_bytes : Option SignatureBlock → List ℕ
block_bytes None = []
block_bytes (Some block) = block.link ∷ little_endian 6 block.stamp ++ block.sig

-- the bytes of the header after STX: five of MAVLink 1, nine of MAVLink 2
abbrev pub header_of : Bool → Packet → List ℕ
header_of true packet =
    length packet.payload ∷ packet.seq ∷ packet.from.sys ∷ packet.from.comp ∷ little_endian 1 packet.id
header_of false packet =
    length packet.payload ∷ incompat_flags packet.block ∷ packet.compat ∷ packet.seq ∷ packet.from.sys
    ∷ packet.from.comp ∷ little_endian 3 packet.id

abbrev pub header : Packet → List ℕ
header packet = header_of packet.old packet

-- what the checksum runs over, before CRC_EXTRA: all bytes after STX up to the end of the payload
abbrev pub checked_bytes : Packet → List ℕ
checked_bytes packet = header packet ++ packet.payload

-- the checksum of a frame whose message has that CRC_EXTRA
abbrev pub checksum : Packet → ℕ → ℕ
checksum packet extra = check (checked_bytes packet ++ extra ∷ [])

-- a frame of MAVLink 2 without compatibility flags, whose checksum isn't set
abbrev pub unsealed : ℕ → Name → ℕ → List ℕ → Option SignatureBlock → Packet
unsealed seq from id payload block = record {
  old = false;
  compat = 0;
  seq = seq;
  from = from;
  id = id;
  payload = payload;
  check = 0;
  block = block;
}

-- a frame with its checksum, if its message has that CRC_EXTRA
abbrev pub sealed : ℕ → Packet → Packet
sealed extra packet = record packet { check = checksum packet extra }

-- the bytes of a frame
abbrev pub encoding : Packet → List ℕ
encoding packet = stx_of packet.old ∷ checked_bytes packet ++ little_endian 2 packet.check ++ block_bytes packet.block

-- the frame's id is known, its checksum is right, and frames of MAVLink 1 are read if it is one
pub record IsSealed (extras : List (ℕ × ℕ)) (old : Bool) (packet : Packet) : Type 0 where
  pub extra : ℕ
  pub known : extra_of packet.id extras ≡ Some extra
  pub right : packet.check ≡ checksum packet extra
  pub version : packet.old ≡ true → old ≡ true

-- these bytes encode this frame
pub record Encodes (extras : List (ℕ × ℕ)) (old : Bool) (packet : Packet) (b : List ℕ) : Type 0 where
  pub sealed : IsSealed extras old packet
  pub bytes : b ≡ encoding packet
