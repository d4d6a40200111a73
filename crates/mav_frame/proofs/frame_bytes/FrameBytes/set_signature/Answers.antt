use Rattle.std.proofs.Common.{◌≡◌, ◌≤◌, ◌<◌, ℕ, List, length, take, All, IsSome, get_or, sym, subst, arith}
use Rattle.std.proofs.lemmas.List.{get_or_default, length-take-le}
use Rattle.mav_frame.specs.Packet.{Packet}
use Rattle.mav_frame.specs.Raw.{packet_in}
use Rattle.mav_frame.proofs.NewSignatures.{put_signature, signed_long}
use Rattle.mav_frame.proofs.frame_bytes.FrameBytes.set_signature.Goals as goal

fits : (size : ℕ) (b : List ℕ) → size ≤ 280 → length b ≡ 280 → size ≤ length b
fits size b h l = omega (arith, h, l)

pub overflow_sub-self-inside : goal.overflow_sub-self-inside
overflow_sub-self-inside c =
    let b = c.self.inside.bytes in
    let frame = c.self.invariant.1 in
    subst (λ (n : ℕ). 6 ≤ n) (length-take-le c.self.inside.size b (fits c.self.inside.size b c.self.invariant.0 c.self.told))
    (signed_long (take c.self.inside.size b) (packet_in (take c.self.inside.size b)) frame.bytes frame.fits (subst (λ (p : Packet). IsSome p.block) (sym c.self.view_is) c.requires))

are_bytes : (sig : List ℕ) → ((i : ℕ) → get_or sig i 0 < 256) → All (λ byte. byte < 256) sig
are_bytes sig h k d l = subst (λ (z : ℕ). z < 256) (get_or_default sig k 0 d l) (h k)

pub invariant_of-self : goal.invariant_of-self
invariant_of-self c =
    (c.self.invariant.0, (put_signature c.self.inside.size c.put.result c.self.inside.bytes c.put.new.out c.args.signature.now c.args.self.now (fits c.self.inside.size c.self.inside.bytes c.self.invariant.0 c.self.told) c.self.invariant.1 c.self.view_is c.told-signature (are_bytes c.args.signature.now c.fits-signature) c.requires c.put.ensures.end c.put.ensures.prefix).0)

pub returns : goal.returns
returns c = (put_signature c.self.inside.size c.put.result c.self.inside.bytes c.put.new.out c.args.signature.now c.args.self.now (fits c.self.inside.size c.self.inside.bytes c.self.invariant.0 c.self.told) c.self.invariant.1 c.self.view_is c.told-signature (are_bytes c.args.signature.now c.fits-signature) c.requires c.put.ensures.end c.put.ensures.prefix).1
