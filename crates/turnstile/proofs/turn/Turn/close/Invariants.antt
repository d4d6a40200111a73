use Rattle.std.proofs.Common.{vec_len}
use Rattle.turnstile.specs.Merging.{IsMerged}
use Rattle.turnstile.proofs.turn.Turn.close.Given as goal

abbrev pub invariant-loop-other : goal.invariant-loop-other
invariant-loop-other g l = IsMerged l.fn.self l.merged.table_id l.merged.me l.left.items l.fn.seats.items

abbrev pub decreases-loop-other : goal.decreases-loop-other
decreases-loop-other g l = vec_len l.left
