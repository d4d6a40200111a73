use Rattle.std.proofs.Common.{take, arith}
use Rattle.std.proofs.lemmas.List.{length-take}
use Rattle.field_layout.proofs.Truncation.{truncated_le}
use Rattle.field_layout.proofs.buffer.Buffer.truncated_len.Goals as goal

pub overflow_cast-result : goal.overflow_cast-result
overflow_cast-result c =
    let held = c.self.inside.bytes in
    let len = c.self.inside.len in
    omega (arith, c.truncated_len.ensures, truncated_le (take len held), length-take len held, c.self.told)
