use Rattle.relay_rules.specs.Ways.{ChoosesOf}
use Rattle.relay_rules.proofs.links.chosen.Given as goal

abbrev pub invariant-loop-at : goal.invariant-loop-at
invariant-loop-at l = ChoosesOf l.at l.links l.behind.bits l.own l.is_signed l.plain l.ways.bits
