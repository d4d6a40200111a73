use Rattle.std.proofs.Common.{◌≡◌, vec_len, vec_capacity}
use Rattle.link_table.specs.OpenLinks.{has_link}
use Rattle.relay_core.specs.Waitings.{WaitsAt}
use Rattle.relay_core.proofs.queues.pass_on.Given as goal

abbrev pub invariant-loop-at : goal.invariant-loop-at
invariant-loop-at l =
    WaitsAt l.at (has_link l.ways.bits) l.bytes l.fn.list.items l.list.items
    × (vec_len l.list ≡ vec_len l.fn.list)
    × (vec_capacity l.list ≡ vec_capacity l.fn.list)
