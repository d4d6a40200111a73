use Rattle.std.proofs.Common.{arith}
use Rattle.turnstile.proofs.Preservation.{join_keeps}
use Rattle.turnstile.proofs.lock.TicketLock.merge.Goals as goal

pub join_seat-requires : goal.join_seat-requires
join_seat-requires g c =
    let o = c.requires.outside in
    (c.requires.of.0, c.requires.of.1, o.1.no_slot, (let h = c.args.self.now.shape in omega arith), join_keeps g.V.Journaled.journal _ _ _ _ _ _ o.0.no_ticket o.0.no_turn o.1.no_ticket o.1.no_turn)
