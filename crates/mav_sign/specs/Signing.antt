-- The signature of a frame (MAVLink guide, Message Signing: Signature; FIPS 180-4).
use Rattle.std.specs.Prelude.{ℕ, ◌≡◌, Bool, false, List, ◌∷◌, ◌++◌, take, Option, Some, None}
use Rattle.std.specs.Str.{bytes_eq}
use Rattle.sha2.specs.Sha256.{sha256}
use Rattle.mav_frame.specs.Numbers.{little_endian}
use Rattle.mav_frame.specs.Packet.{Packet, SignatureBlock}
use Rattle.mav_frame.specs.Raw.{packet_in, through_checksum}

-- the first 6 bytes of SHA-256 over the secret key, the frame through its checksum, the link id and the timestamp
abbrev pub signature_of : List ℕ → Packet → ℕ → ℕ → List ℕ
signature_of key packet link stamp = take 6 (sha256 (key ++ through_checksum packet ++ link ∷ little_endian 6 stamp))

-- the frame has a signature block, and that has the signature under the key
abbrev pub Verifies : List ℕ → Packet → Option SignatureBlock → Type 0
Verifies key packet None = ⊥
Verifies key packet (Some block) = block.sig ≡ signature_of key packet block.link block.stamp

-- the same as a test: whether a frame has a signature block, and that has the signature under the key
abbrev pub verified : List ℕ → Packet → Option SignatureBlock → Bool
verified key packet None = false
verified key packet (Some block) = bytes_eq block.sig (signature_of key packet block.link block.stamp)

-- the frame that bytes are read as verifies under the key
abbrev pub BytesVerify : List ℕ → List ℕ → Type 0
BytesVerify key bytes = Verifies key (packet_in bytes) (packet_in bytes).block
