use Rattle.std.proofs.Common.{arith, sym, subst, ap, ℕ, ◌∙◌, ◌≡◌, ◌≤◌, ◌<◌, length, List}
use Rattle.mav_sign.specs.Kept.{Forgets, HasRoom, Kept}
use Rattle.mav_sign.proofs.Forgetting.{room_left, room_made}
use Rattle.mav_sign.proofs.stamps.Stamps.make_room.Goals as goal

pub returns-then-count-lt-STREAM_LIMIT-clause-room : goal.returns-then-count-lt-STREAM_LIMIT-clause-room
returns-then-count-lt-STREAM_LIMIT-clause-room c =
    room_left c.args.self.now (subst (λ (k : Kept). length k.last < 256) c.self.view_is (omega (arith, c.count.ensures, c.if-count-lt-STREAM_LIMIT.true)))

pub returns-clause-room : goal.returns-clause-room
returns-clause-room c =
    subst (λ (k : Kept). HasRoom k (record { low = c.self.inside.low; last = c.forget.new.self; accepted = c.self.inside.accepted; previous = c.self.inside.previous })) c.self.view_is
    (room_made (record { low = c.self.inside.low; last = c.self.inside.last; accepted = c.self.inside.accepted; previous = c.self.inside.previous }) c.forget.new.self (omega (arith, c.count.ensures, c.if-count-lt-STREAM_LIMIT.false)) c.in_ok-forget.ensures.forgets)
