use Rattle.std.proofs.Common.{arith, ◌∙◌, sym, subst, Option}
use Rattle.atomic_table.specs.Table.{Me}
use Rattle.turnstile.specs.declared.participant.ParticipantState.{ParticipantState}
use Rattle.turnstile.specs.Moments.{OwnEntriesStand}
use Rattle.turnstile.proofs.OwnEntries.{stand_after_release}
use Rattle.turnstile.proofs.Outcomes.{release_allowed, released_state}
use Rattle.turnstile.proofs.lock.TicketLock.leave.Goals as goal

pub fetch_add-turns-requires : goal.fetch_add-turns-requires
fetch_add-turns-requires g c =
    let e = c.exchange.ensures in
    (e.0 ∙ c.requires.of, (let h = c.args.self.now.shape in omega arith), release_allowed g.V.Journaled.journal _ _ _ _ c.args.seat.now.me c.exchange.new.seat.me c.args.value e.3 c.requires.inside c.requires.appended)

pub returns-clause-stand : goal.returns-clause-stand
returns-clause-stand g c h =
    let m = c.args.seat.now.me in
    let v = released_state g.V.Journaled.journal m c.exchange.new.seat.me c.fetch_add-turns.new.seat.me c.args.value c.exchange.ensures.3 c.requires.inside c.fetch_add-turns.ensures.2 in
    subst (λ (z : Me (Option g.row.V.Denot) (ParticipantState g.row.V-Entry.Denot)). OwnEntriesStand z.0) (sym v) (stand_after_release m.0 (g.V.Journaled.journal c.args.value) c.requires.appended h)
