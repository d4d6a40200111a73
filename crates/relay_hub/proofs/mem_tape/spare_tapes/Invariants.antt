use Rattle.std.proofs.Common.{◌≡◌, ◌≤◌, vec_len, vec_capacity}
use Rattle.relay_hub.proofs.mem_tape.spare_tapes.Given as goal

abbrev pub invariant-loop-tape : goal.invariant-loop-tape
invariant-loop-tape l = (vec_len l.tapes ≡ l._tape) × (l.count ≤ vec_capacity l.tapes)
