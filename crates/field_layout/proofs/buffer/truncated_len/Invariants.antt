use Rattle.std.proofs.Common.{◌≡◌, ◌≤◌, length, take}
use Rattle.field_layout.specs.Payload.{truncated}
use Rattle.field_layout.proofs.buffer.truncated_len.Given as goal

abbrev pub invariant-loop-len : goal.invariant-loop-len
invariant-loop-len l = (l.len ≤ length l.payload) × (truncated (take l.len l.payload) ≡ truncated l.payload)

abbrev pub decreases-loop-len : goal.decreases-loop-len
decreases-loop-len l = l.len
