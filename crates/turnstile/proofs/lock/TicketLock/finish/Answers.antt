use Rattle.std.proofs.Common.{length}
use Rattle.turnstile.proofs.Outcomes.{ends_with, never_out}
use Rattle.turnstile.proofs.lock.TicketLock.finish.Goals as goal

pub unreachable-requires : goal.unreachable-requires
unreachable-requires g c =
    never_out g.V.Journaled.journal (length (g.V.Journaled.journal c.args.self.table.shared.key.value.value)) c.args.self.table.shared.key.handles c.args.seat.id c.args.seat.me.0 _ _ _
    c.requires.outside.no_ticket c.requires.outside.no_turn c.requires.all c.close_with-closed.ensures.values.2 c.take-found.ensures.value c.in-None.is

pub returns-clause-begins : goal.returns-clause-begins
returns-clause-begins g c =
    (ends_with g.V.Journaled.journal (length (g.V.Journaled.journal c.args.self.table.shared.key.value.value)) c.args.self.table.shared.key.handles c.args.seat.id c.args.seat.me.0 _ _ _ c.in-Some.value
    c.requires.outside.no_ticket c.requires.outside.no_turn c.requires.all c.close_with-closed.ensures.values.2 c.take-found.ensures.value c.in-Some.is).seen

pub returns-clause-merged : goal.returns-clause-merged
returns-clause-merged g c =
    (ends_with g.V.Journaled.journal (length (g.V.Journaled.journal c.args.self.table.shared.key.value.value)) c.args.self.table.shared.key.handles c.args.seat.id c.args.seat.me.0 _ _ _ c.in-Some.value
    c.requires.outside.no_ticket c.requires.outside.no_turn c.requires.all c.close_with-closed.ensures.values.2 c.take-found.ensures.value c.in-Some.is).merged

pub returns-clause-added : goal.returns-clause-added
returns-clause-added g c =
    (ends_with g.V.Journaled.journal (length (g.V.Journaled.journal c.args.self.table.shared.key.value.value)) c.args.self.table.shared.key.handles c.args.seat.id c.args.seat.me.0 _ _ _ c.in-Some.value
    c.requires.outside.no_ticket c.requires.outside.no_turn c.requires.all c.close_with-closed.ensures.values.2 c.take-found.ensures.value c.in-Some.is).added
