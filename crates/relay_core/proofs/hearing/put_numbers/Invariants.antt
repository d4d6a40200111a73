use Rattle.std.proofs.Common.{◌≡◌, ◌≤◌, ◌++◌, take, drop}
use Rattle.link_table.specs.OpenLinks.{has_link}
use Rattle.relay_core.specs.Moves.{numbers_of}
use Rattle.relay_core.proofs.hearing.put_numbers.Given as goal

abbrev pub invariant-loop-at : goal.invariant-loop-at
invariant-loop-at l =
    (l.count ≤ l.at)
    × (take l.count l.numbers ++ numbers_of (has_link l.ways.bits) l.at (drop l.at l.links.links) ≡ numbers_of (has_link l.ways.bits) 0 l.links.links)
