use Rattle.std.proofs.Common.{◌≡◌, ◌-◌, List, length, drop, slice_range, refl, ap, ◌∙◌, subst, arith, length-take, length-drop}
use Rattle.mav_sign.specs.declared.heard.Heard.{Heard}
use Rattle.mav_sign.specs.Endpoints.{EndpointState, after_frames, frames_of, FrontHeard, Received}
use Rattle.mav_sign.proofs.Hearing.{heard_at_start, heard_on, heard_whole}
use Rattle.mav_sign.proofs.endpoint.Endpoint.receive.Goals as goal

pub loop-place-init : goal.loop-place-init
loop-place-init c = record {
  within = omega arith;
  same = refl;
  room = omega (arith, c.in_ok-reserve.ensures.ok, c.in_ok-reserve.ensures.capacity, c.in_ok-reserve.ensures.len);
  heard = λ history of. heard_at_start c.args.self.now.extras c.args.self.now.key history c.args.datagram.now c.reserve.new.self.items c.args.self.now.stamps of;
}

pub loop-place-preserved : goal.loop-place-preserved
loop-place-preserved c =
    let l = c.loop-place in
    let bytes = c.args.datagram.now in
    let size = c.hear_front-place.result in
    let front = c.hear_front-place.ensures in
    let new = c.hear_front-place.new in
    let cut : length (slice_range bytes l.place (length bytes)) ≡ length bytes - l.place = omega (arith, length-take (length bytes - l.place) (drop l.place bytes), length-drop l.place bytes) in
    record {
      within = omega (arith, front.size.1, cut, l.invariant.within);
      same = front.same ∙ ap (λ (s : EndpointState). record s { stamps = new.self.stamps }) l.invariant.same;
      room = omega (arith, front.size.1, cut, l.invariant.within, front.room.0, front.room.1, l.invariant.room);
      heard = λ history of.
          let to = l.invariant.heard history of in
          let history_then = after_frames c.args.self.now.key history (frames_of to.events) in
          let here = subst (λ (s : EndpointState). FrontHeard s.extras s.key (after_frames c.args.self.now.key history (frames_of to.events)) (slice_range bytes l.place (length bytes)) size l.out.items new.out.items new.self.stamps) l.invariant.same (front.heard history_then to.told.represents) in
          heard_on c.args.self.now.extras c.args.self.now.key history bytes l.place size c.reserve.new.self.items l.out.items new.out.items l.self.stamps new.self.stamps to here;
    }

pub returns-clause-received : goal.returns-clause-received
returns-clause-received c =
    λ history of.
    let l = c.loop-place in
    subst (λ (before : List Heard). Received c.args.self.now.extras c.args.self.now.key history c.args.datagram.now before l.out.items l.self.stamps) c.in_ok-reserve.ensures.items (heard_whole c.args.self.now.extras c.args.self.now.key history c.args.datagram.now l.place c.reserve.new.self.items l.out.items l.self.stamps c.loop-place-test.false (l.invariant.heard history of))
