use Rattle.std.proofs.Common.{◌≡◌, ◌-◌, List, length, drop, slice_range, subst, arith, length-take, length-drop}
use Rattle.mav_frame.specs.Packet.{Packet}
use Rattle.mav_sign.specs.Endpoints.{FramesOf}
use Rattle.mav_sign.proofs.Hearing.{frames_at_start, frames_on, frames_whole}
use Rattle.mav_sign.proofs.reading.append_frames.Goals as goal

pub loop-index-init : goal.loop-index-init
loop-index-init c = record {
  within = omega arith;
  room = omega (arith, c.in_ok-reserve.ensures.ok, c.in_ok-reserve.ensures.capacity, c.in_ok-reserve.ensures.len);
  frames = frames_at_start c.args.extras.now c.args.datagram.now c.reserve.new.self.items;
}

pub loop-index-preserved : goal.loop-index-preserved
loop-index-preserved c =
    let l = c.loop-index in
    let bytes = c.args.datagram.now in
    let size = c.append_front-index.result in
    let front = c.append_front-index.ensures in
    let part : length (slice_range bytes l.index (length bytes)) ≡ length bytes - l.index = omega (arith, length-take (length bytes - l.index) (drop l.index bytes), length-drop l.index bytes) in
    record {
      within = omega (arith, front.size.1, part, l.invariant.within);
      room = omega (arith, front.size.1, part, l.invariant.within, front.room.0, front.room.1, l.invariant.room);
      frames = frames_on c.args.extras.now bytes l.index size c.reserve.new.self.items l.out.items c.append_front-index.new.out.items l.invariant.frames front.front;
    }

pub returns-clause-frames : goal.returns-clause-frames
returns-clause-frames c =
    let l = c.loop-index in
    subst (λ (before : List Packet). FramesOf c.args.extras.now c.args.datagram.now before l.out.items) c.in_ok-reserve.ensures.items (frames_whole c.args.extras.now c.args.datagram.now l.index c.reserve.new.self.items l.out.items c.loop-index-test.false l.invariant.frames)
