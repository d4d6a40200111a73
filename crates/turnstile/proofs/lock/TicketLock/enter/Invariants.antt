use Rattle.std.proofs.Common.{◌≡◌}
use Rattle.turnstile.specs.Moments.{IsWaiting}
use Rattle.turnstile.proofs.lock.TicketLock.enter.Given as goal

abbrev pub invariant-loop : goal.invariant-loop
invariant-loop g l = (l.seat.table_id ≡ l.initial.seat.table_id) × IsWaiting l.ticket l.seat.me × (l.seat.me ≡ l.initial.seat.me)
