use Rattle.std.proofs.Common.{arith}
use Rattle.turnstile.proofs.Preservation.{split_keeps}
use Rattle.turnstile.proofs.lock.TicketLock.split.Goals as goal

pub split_seat-requires : goal.split_seat-requires
split_seat-requires g c =
    (c.requires.of, (let h = c.args.self.now.shape in omega arith), split_keeps g.V.Journaled.journal _ _ _ _ c.requires.outside.no_ticket c.requires.outside.no_turn c.requires.more)
