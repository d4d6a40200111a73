use Rattle.std.proofs.Common.{◌≡◌, ◌+◌, ◌-◌, [], vec_len, replicate}
use Rattle.turnstile.specs.Steps.{new_participant}
use Rattle.turnstile.specs.Participants.{opened}
use Rattle.turnstile.proofs.turn.Turn.new.Given as goal

abbrev pub invariant-loop : goal.invariant-loop
invariant-loop g l =
    (l.first.table_id ≡ l.lock.table.shared.table_id)
    × (l.first.me ≡ (new_participant (g.V.Journaled.journal l.fn.value) (l.seats - vec_len l.all), []))
    × (vec_len l.all + 1 ≡ l.counter)
    × (l.all.items ≡ replicate (vec_len l.all) (opened l.lock.table.shared.table_id (g.V.Journaled.journal l.fn.value)))
