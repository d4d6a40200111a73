use Rattle.std.proofs.Common.{◌≡◌, ℕ, ◌≤◌, List, length, take, arith, length-take}
use Rattle.mav_frame.specs.Looks.{is_old_at, packet_at}
use Rattle.mav_frame.proofs.FoundEncoded.{once}
use Rattle.mav_frame.proofs.RawFrames.{found_frame}
use Rattle.mav_frame.proofs.raw.RawFrame.at.Goals as goal

size_is : (n : ℕ) (b : List ℕ) → n ≤ length b → n ≡ length (take n b)
size_is n b within = omega (arith, length-take n b)

pub slice_bounds-result-end : goal.slice_bounds-result-end
slice_bounds-result-end c =
    let b = c.args.bytes.now in
    size_is c.args.size b (once c.requires.extras c.args.old b (packet_at (is_old_at c.args.old b) b) c.args.size (λ i. omega (arith, c.type_inv.bytes i)) c.requires.found).0

pub invariant_of-result : goal.invariant_of-result
invariant_of-result c =
    let b = c.args.bytes.now in
    (found_frame c.requires.extras c.args.old b (packet_at (is_old_at c.args.old b) b) c.args.size (λ i. omega (arith, c.type_inv.bytes i)) c.requires.found).0

pub returns : goal.returns
returns c =
    let b = c.args.bytes.now in
    (found_frame c.requires.extras c.args.old b (packet_at (is_old_at c.args.old b) b) c.args.size (λ i. omega (arith, c.type_inv.bytes i)) c.requires.found).1
