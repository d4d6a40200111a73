-- A frame as plain data (MAVLink guide, MAVLink 2 Packet Format and MAVLink 1 Packet Format; Message Signing,
-- Signature).
use Rattle.std.specs.Prelude.{ℕ, ◌^◌, ◌<◌, ◌≡◌, Bool, true, List, length, Option, None, IfSome, All}
use Rattle.mav_names.specs.declared.names.Name.{Name}

-- the link id, the timestamp and the six bytes of the signature
pub record SignatureBlock : Type 0 where
  pub link : ℕ
  pub stamp : ℕ
  pub sig : List ℕ

-- `old` says that it is a frame of MAVLink 1; the payload has as many bytes as the frame's length says
pub record Packet : Type 0 where
  pub old : Bool
  pub compat : ℕ
  pub seq : ℕ
  pub from : Name
  pub id : ℕ
  pub payload : List ℕ
  pub check : ℕ
  pub block : Option SignatureBlock

-- what a signature block can hold: a timestamp of 6 bytes, a signature of 6 bytes
pub record FitsBlock (block : SignatureBlock) : Type 0 where
  pub link : block.link < 256
  pub stamp : block.stamp < 2 ^ 48
  pub length : length block.sig ≡ 6
  pub bytes : All (λ byte. byte < 256) block.sig

-- what a frame of MAVLink 1 can hold: an id of one byte, no compatibility flags and no signature block
pub record FitsOld (packet : Packet) : Type 0 where
  pub id : packet.id < 256
  pub compat : packet.compat ≡ 0
  pub block : packet.block ≡ None

-- what a frame can hold: an id of 3 bytes, at most 255 bytes of payload
pub record FitsFrame (packet : Packet) : Type 0 where
  pub compat : packet.compat < 256
  pub seq : packet.seq < 256
  pub sys : packet.from.sys < 256
  pub comp : packet.from.comp < 256
  pub id : packet.id < 2 ^ 24
  pub length : length packet.payload < 256
  pub payload : All (λ byte. byte < 256) packet.payload
  pub check : packet.check < 2 ^ 16
  pub block : IfSome packet.block FitsBlock
  pub old : packet.old ≡ true → FitsOld packet
