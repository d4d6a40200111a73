-- Bytes that encode a frame.
use Rattle.std.proofs.Common.{◌≡◌, ℕ, Bool, true, false, List, [], take, sym, ap, ◌∙◌, subst, append-nil}
use Rattle.mav_frame.specs.Packet.{Packet, FitsFrame}
use Rattle.mav_frame.specs.Encoding.{encoding}
use Rattle.mav_frame.specs.Looks.{look_of, packet_at}
use Rattle.mav_frame.specs.Raw.{IsFrame, packet_in}
use Rattle.mav_frame.specs.declared.looks.Look.TheVariants.{Frame as Found}
use Rattle.mav_frame.proofs.EncodedFound.{read_again}
use Rattle.mav_frame.proofs.FoundEncoded.{IsBytes, once}

in_encoding : (v : Bool) (p : Packet) → FitsFrame (record p { old = v }) → packet_in (encoding (record p { old = v })) ≡ record p { old = v }
unfolding packet_in
in_encoding true p f = ap (packet_at true) (sym (append-nil (encoding (record p { old = true })))) ∙ read_again true p [] f
in_encoding false p f = ap (packet_at false) (sym (append-nil (encoding (record p { old = false })))) ∙ read_again false p [] f

-- what encodes a frame encodes the frame that it is read as
pub encodes_frame : (b : List ℕ) (p : Packet) → b ≡ encoding p → FitsFrame p → IsFrame b × (packet_in b ≡ p)
encodes_frame b p e f =
    let same : packet_in b ≡ p = ap packet_in e ∙ in_encoding p.old p f in
    (record { bytes = e ∙ ap encoding (sym same); fits = subst FitsFrame (sym same) f }, same)

-- the bytes of a frame that is found encode it
pub found_frame : (extras : List (ℕ × ℕ)) (old : Bool) (b : List ℕ) (p : Packet) (n : ℕ) → IsBytes b → look_of extras old b ≡ Found p n → IsFrame (take n b) × (packet_in (take n b) ≡ p)
found_frame extras old b p n h found =
    let facts = once extras old b p n h found in
    encodes_frame (take n b) p facts.1.bytes facts.2
