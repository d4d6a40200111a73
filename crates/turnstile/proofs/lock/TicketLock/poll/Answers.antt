use Rattle.std.proofs.Common.{arith, Some, ◌∙◌}
use Rattle.turnstile.proofs.Preservation.{poll_keeps}
use Rattle.turnstile.proofs.Outcomes.{poll_served, holds_it}
use Rattle.turnstile.proofs.lock.TicketLock.poll.Goals as goal

pub load-requires : goal.load-requires
load-requires g c =
    (c.requires.of, (let h = c.args.self.now.shape in omega arith), poll_keeps g.V.Journaled.journal _ _ _ _ _ _ c.requires.waiting.ticket.1 c.requires.waiting.no_turn)

pub exchange-requires : goal.exchange-requires
exchange-requires g c =
    let s = poll_served g.V.Journaled.journal c.args.seat.now.me c.load.new.seat.me c.load.result c.args.ticket c.load.ensures.2 c.requires.waiting c.if-load-ticket.false in
    (c.load.ensures.0 ∙ c.requires.of, (Some s.value, holds_it g.V.Journaled.journal c.load.new.seat.me (Some s.value) s.slot))
