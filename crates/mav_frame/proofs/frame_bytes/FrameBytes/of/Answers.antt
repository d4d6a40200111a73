use Rattle.std.proofs.Common.{◌≡◌, ◌≤◌, List, ℕ, length, take, ap, arith, length-take}
use Rattle.mav_frame.specs.Encoding.{encoding}
use Rattle.mav_frame.proofs.RawFrames.{encodes_frame}
use Rattle.mav_frame.proofs.frame_bytes.FrameBytes.of.Goals as goal

fits : (n : ℕ) (l e : List ℕ) → n ≡ length e → take n l ≡ e → length l ≡ 280 → n ≤ 280
fits n l e size same long = omega (arith, size, ap length same, length-take n l, long)

pub invariant_of-result : goal.invariant_of-result
invariant_of-result c = (fits c.encode-size.result c.encode-size.new.out (encoding c.args.frame.now) c.encode-size.ensures.size c.encode-size.ensures.bytes c.encode-size.array_long, (encodes_frame (take c.encode-size.result c.encode-size.new.out) c.args.frame.now c.encode-size.ensures.bytes c.fits.ensures).0)

pub returns : goal.returns
returns c = (encodes_frame (take c.encode-size.result c.encode-size.new.out) c.args.frame.now c.encode-size.ensures.bytes c.fits.ensures).1
