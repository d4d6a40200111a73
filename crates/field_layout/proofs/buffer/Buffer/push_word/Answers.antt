use Rattle.std.proofs.Common.{◌≡◌, ◌++◌, ◌∷◌, [], ◌-◌, ◌+◌, ◌%◌, ◌/◌, List, ℕ, length, sym, ap, ◌∙◌, append_assoc, arith}
use Rattle.std.proofs.lemmas.List.{length_push}
use Rattle.field_layout.specs.Payload.{le_bytes}
use Rattle.field_layout.proofs.Bytes.{le_bytes-first}
use Rattle.field_layout.proofs.buffer.Buffer.push_word.Goals as goal

pub loop-byte-preserved : goal.loop-byte-preserved
loop-byte-preserved c =
    let rest = c.loop-byte.rest in
    let before = c.loop-byte.self in
    let behind = le_bytes (c.args.size - (c.loop-byte._byte + 1)) (rest / 256) in
    let first : le_bytes (c.args.size - c.loop-byte._byte) rest ≡ rest % 256 ∷ behind = le_bytes-first c.args.size c.loop-byte._byte rest c.loop-byte-test.true in
    let regroup : (before ++ rest % 256 ∷ []) ++ behind ≡ before ++ (rest % 256 ∷ behind) = append_assoc before (rest % 256 ∷ []) behind in
    let longer : length c.push.new.self ≡ length before + 1 = ap length c.push.ensures ∙ length_push before (rest % 256) in
    (ap (λ (l : List ℕ). l ++ behind) c.push.ensures ∙ (regroup ∙ (ap (λ (l : List ℕ). before ++ l) (sym first) ∙ c.loop-byte.invariant.0)), omega (arith, longer, c.loop-byte.invariant.1))
