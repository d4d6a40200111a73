use Rattle.std.proofs.Common.{◌≡◌, ◌+◌, ◌*◌, ◌≤◌, length, take, ap, ◌∙◌, arith}
use Rattle.std.specs.List.{flat_map}
use Rattle.std.proofs.Math.Nat.{mul-le-mul_left}
use Rattle.std.proofs.lemmas.List.{length-append, length-take-le}
use Rattle.field_layout.specs.Payload.{le_bytes}
use Rattle.field_layout.proofs.Bytes.{length-word_bytes}
use Rattle.field_layout.proofs.buffer.Buffer.push_words.Goals as goal

pub push_word-requires : goal.push_word-requires
push_word-requires c =
    let words = c.args.words.now in
    let i = c.loop-word.word-index in
    let size = c.args.size in
    let so_far : length c.loop-word.self ≡ length c.args.self.now + length (flat_map (le_bytes size) (take i words)) = ap length c.loop-word.invariant ∙ length-append c.args.self.now (flat_map (le_bytes size) (take i words)) in
    let taken : length (take i words) ≡ i = length-take-le i words (omega arith) in
    let bytes : length (flat_map (le_bytes size) (take i words)) ≡ size * i = length-word_bytes size (take i words) ∙ ap (λ n. size * n) taken in
    let more : size * (i + 1) ≤ size * length words = mul-le-mul_left size (omega arith) in
    omega (arith, so_far, bytes, more)
