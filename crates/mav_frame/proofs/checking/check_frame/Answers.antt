use Rattle.std.proofs.Common.{ℕ, ◌≤◌, Bool, List, length, take, arith}
use Rattle.mav_frame.specs.Packet.{FitsFrame}
use Rattle.mav_frame.specs.Encoding.{Encodes}
use Rattle.mav_frame.specs.Looks.{IfFrame, IfWhole, is_old_at, look_by, packet_at}
use Rattle.mav_frame.specs.declared.looks.FrameCheck.{FrameCheck}
use Rattle.mav_frame.specs.declared.looks.FrameCheck.TheVariants.{Whole, NotHere, More}
use Rattle.mav_frame.proofs.FoundEncoded.{once_look}
use Rattle.mav_frame.proofs.checking.check_frame.Goals as goal

found_by : (extras : List (ℕ × ℕ)) (old v : Bool) (b : List ℕ) (s : FrameCheck) → IfFrame (look_by s v b) (λ p n. (n ≤ length b) × Encodes extras old p (take n b) × FitsFrame p) → IfWhole s (λ n. (n ≤ length b) × Encodes extras old (packet_at v b) (take n b) × FitsFrame (packet_at v b))
found_by extras old v b (Whole n) h = h
found_by extras old v b (NotHere why) h = tt
found_by extras old v b (More k) h = tt

pub returns-clause-found : goal.returns-clause-found
returns-clause-found g c =
    let extras = g.T.CrcExtras.pairs c.args.extras.now in let old = c.args.old in let b = c.args.bytes.now in let v = is_old_at old b in
    found_by extras old v b c.checked.result (once_look extras old b (look_by c.checked.result v b) (λ i. omega (arith, c.type_inv.bytes i)) c.checked.ensures.exact)
