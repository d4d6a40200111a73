use Rattle.std.proofs.Common.{◌+◌, ◌-◌, ◌*◌, ◌≤◌, length}
use Rattle.std.specs.Prelude.{vec_len, vec_capacity}
use Rattle.mav_sign.specs.Endpoints.{FramesTo}
use Rattle.mav_sign.proofs.reading.append_frames.Given as goal

abbrev pub invariant-loop-index : goal.invariant-loop-index
invariant-loop-index l = record {
  within : l.index ≤ length l.datagram;
  room : vec_len l.out * 12 + (length l.datagram - l.index) ≤ vec_capacity l.out * 12 + 11;
  frames : FramesTo l.extras l.datagram l.index l.initial.out.items l.out.items;
}

abbrev pub decreases-loop-index : goal.decreases-loop-index
decreases-loop-index l = length l.datagram - l.index
