use Rattle.std.proofs.Common.{◌≡◌, [], None, take, arith}
use Rattle.mav_frame.specs.Packet.{FitsFrame}
use Rattle.mav_frame.specs.Encoding.{unsealed}
use Rattle.mav_frame.specs.Raw.{IsFrame, packet_in}
use Rattle.mav_frame.proofs.RawFrames.{encodes_frame}
use Rattle.mav_frame.proofs.frame_bytes.FrameBytes.new.Goals as goal

fits : FitsFrame (unsealed 0 (record { sys = 0; comp = 0 }) 0 [] None)
fits = record {
  compat = omega arith;
  seq = omega arith;
  sys = omega arith;
  comp = omega arith;
  id = omega arith;
  length = omega arith;
  payload = λ k d l. absurd (omega (arith, l));
  check = omega arith;
  block = tt;
  old = λ is. cc;
}

written : (c : goal.After-put-size) → IsFrame (take c.put-size.result c.put-size.new.out) × (packet_in (take c.put-size.result c.put-size.new.out) ≡ unsealed 0 (record { sys = 0; comp = 0 }) 0 [] None)
written c = encodes_frame (take c.put-size.result c.put-size.new.out) (unsealed 0 (record { sys = 0; comp = 0 }) 0 [] None) c.put-size.ensures.prefix fits

pub invariant_of-result : goal.invariant_of-result
invariant_of-result c = (omega (arith, c.put-size.ensures.end), (written c).0)

pub returns : goal.returns
returns c = (written c).1
