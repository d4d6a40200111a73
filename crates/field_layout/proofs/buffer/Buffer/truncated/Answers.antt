use Rattle.std.proofs.Common.{ℕ, take, sym, ap, ◌∙◌, arith}
use Rattle.std.proofs.lemmas.List.{length-take, length-take-le}
use Rattle.field_layout.specs.Payload.{truncated}
use Rattle.field_layout.proofs.Truncation.{taken_truncated, truncated_le}
use Rattle.field_layout.proofs.buffer.Buffer.truncated.Goals as goal

pub slice_bounds-result-end : goal.slice_bounds-result-end
slice_bounds-result-end c =
    let payload = take c.self.inside.len c.self.inside.bytes in
    sym (length-take-le c.truncated_len.result payload (rw c.truncated_len.ensures (truncated_le payload)))

pub returns-clause-bytes : goal.returns-clause-bytes
returns-clause-bytes c =
    let payload = take c.self.inside.len c.self.inside.bytes in
    ap (λ (n : ℕ). take n payload) c.truncated_len.ensures ∙ (taken_truncated payload ∙ ap truncated c.self.view_is)

pub returns-clause-short : goal.returns-clause-short
returns-clause-short c =
    let payload = take c.self.inside.len c.self.inside.bytes in
    omega (arith, length-take c.truncated_len.result payload, length-take c.self.inside.len c.self.inside.bytes, c.self.invariant.0)
