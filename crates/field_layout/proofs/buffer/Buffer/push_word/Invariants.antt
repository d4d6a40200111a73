use Rattle.std.proofs.Common.{◌≡◌, ◌++◌, ◌-◌, ◌+◌, length}
use Rattle.field_layout.specs.Payload.{le_bytes}
use Rattle.field_layout.proofs.buffer.Buffer.push_word.Given as goal

abbrev pub invariant-loop-byte : goal.invariant-loop-byte
invariant-loop-byte l = (l.self ++ le_bytes (l.size - l._byte) l.rest ≡ l.initial.self ++ le_bytes l.size l.word) × (length l.self ≡ length l.initial.self + l._byte)
