use Rattle.std.proofs.Common.{◌≡◌, ◌+◌, ◌==◌, ℕ, List, Bool, true, false, slice_index, sym, ap, ◌∙◌, arith}
use Rattle.std.proofs.lemmas.Bool.Decides.{nat_tests}
use Rattle.mav_frame.specs.Packet.{Packet}
use Rattle.mav_frame.specs.Looks.{block_at, check_offset, is_old_at, packet_at}
use Rattle.mav_frame.specs.Raw.{packet_in}
use Rattle.mav_frame.proofs.EncodedFound.{skip}
use Rattle.mav_frame.proofs.raw.RawFrame.block.Goals as goal

not_zero : (n : ℕ) → (n ≡ 0 → ⊥) → (n == 0) ≡ false
not_zero n other = grind (arith, nat_tests)

block_in : (b : List ℕ) → is_old_at true b ≡ false → (slice_index b 2 == 0) ≡ false → (packet_in b).block ≡ block_at (check_offset false b + 2) b
unfolding packet_in
block_in b new signed = ap (λ (v : Bool). (packet_at v b).block) new ∙ skip _ _ _ signed

pub returns : goal.returns
returns c =
    c.block_of.ensures
    ∙ ap (λ (n : ℕ). block_at (n + 2) c.self.inside.bytes.now) c.offset_in-at.ensures
    ∙ sym (block_in c.self.inside.bytes.now (sym c.is_old_frame.ensures ∙ c.if-is_old_frame.false) (not_zero (slice_index c.self.inside.bytes.now 2) c.if-self-eq0.false))
    ∙ ap (λ (p : Packet). p.block) c.self.view_is
