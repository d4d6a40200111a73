use Rattle.std.proofs.Common.{◌≡◌, ◌-◌, ◌++◌, ◌∙◌, ℕ, List, length, replicate, sym, ap, arith}
use Rattle.field_layout.specs.Payload.{serialised, truncated}
use Rattle.field_layout.proofs.Truncation.{truncated_some}
use Rattle.field_layout.proofs.packing.pack.Goals as goal

pub returns-clause-bytes : goal.returns-clause-bytes
returns-clause-bytes c =
    let payload = serialised c.args.layout.now c.args.values.now in
    let whole : c.serialise-payload.result ≡ payload = c.serialise-payload.ensures.bytes in
    let count : length (truncated payload) ≡ c.truncated_len.result = sym (c.truncated_len.ensures ∙ ap (λ (l : List ℕ). length (truncated l)) whole) in
    c.copy_to.ensures ∙ (ap (λ (l : List ℕ). truncated l ++ replicate (255 - length (truncated l)) 0) whole ∙ ap (λ (n : ℕ). truncated payload ++ replicate (255 - n) 0) count)

pub returns-clause-some : goal.returns-clause-some
returns-clause-some c =
    omega (arith, c.truncated_len.ensures, truncated_some c.serialise-payload.result c.serialise-payload.ensures.some)
