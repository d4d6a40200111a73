use Rattle.std.proofs.Common.{List, [], append-nil, ◌∙◌, sym, subst, Option}
use mathlib.Core.List.{IsPrefix}
use Rattle.atomic_table.specs.Table.{Me}
use Rattle.turnstile.specs.declared.participant.ParticipantState.{ParticipantState}
use Rattle.turnstile.specs.Moments.{OwnEntriesStand}
use Rattle.turnstile.proofs.OwnEntries.{stand_in_more}
use Rattle.turnstile.proofs.lock.TicketLock.enter.Goals as goal

pub returns-in-Some-poll-clause-stand : goal.returns-in-Some-poll-clause-stand
returns-in-Some-poll-clause-stand g c h =
    let entered = c.in-Some-poll.ensures.some in
    let drew = c.take_ticket-ticket.ensures in
    let waiting = stand_in_more c.args.seat.now.me.0 c.take_ticket-ticket.new.seat.me.0 drew.own ([], append-nil _ ∙ sym drew.seen) h in
    let here = subst (λ (z : Me (Option g.row.V.Denot) (ParticipantState g.row.V-Entry.Denot)). OwnEntriesStand z.0) (sym c.loop.invariant.2) waiting in
    stand_in_more c.loop.seat.me.0 c.poll.new.seat.me.0 entered.own (subst (λ (z : List g.row.V-Entry.Denot). IsPrefix c.loop.seat.me.0.seen z) (sym entered.seen) entered.begins) here
