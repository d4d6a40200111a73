use Rattle.std.proofs.Common.{arith}
use Rattle.turnstile.proofs.Preservation.{ticket_keeps}
use Rattle.turnstile.proofs.lock.TicketLock.take_ticket.Goals as goal

pub fetch_add-requires : goal.fetch_add-requires
fetch_add-requires g c =
    (c.requires.of, (let h = c.args.self.now.shape in omega arith), ticket_keeps g.V.Journaled.journal _ _ _ _ _ c.requires.outside.no_ticket c.requires.outside.no_turn c.requires.live)
