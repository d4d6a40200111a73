use Rattle.std.proofs.Common.{◌≡◌, ◌-◌, ◌++◌, ℕ, List, length, take, drop, replicate, sym, ap, ◌∙◌, arith, take-append-drop}
use Rattle.std.proofs.lemmas.List.{length-take}
use Rattle.field_layout.proofs.Truncation.{padded_same}
use Rattle.field_layout.proofs.buffer.Buffer.copy_to.Goals as goal

pub returns : goal.returns
returns c =
    let held = c.self.inside.bytes in
    let len = c.self.inside.len in
    let payload = c.args.self.now in
    let seen : length (take len held) ≡ length payload = ap length c.self.view_is in
    let count : len ≡ length payload = omega (arith, seen, length-take len held, c.self.told, c.self.invariant.0) in
    let parts : held ≡ take len held ++ drop len held = sym (take-append-drop len held) in
    parts ∙ (ap (λ (l : List ℕ). l ++ drop len held) c.self.view_is ∙ (ap (λ (l : List ℕ). payload ++ l) (c.self.invariant.1 ∙ ap (λ (n : ℕ). replicate (255 - n) 0) count) ∙ padded_same payload 255 (omega (arith, count, c.self.invariant.0))))
