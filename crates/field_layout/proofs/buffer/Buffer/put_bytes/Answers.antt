use Rattle.std.proofs.Common.{◌≡◌, ◌+◌, ◌-◌, ◌≤◌, ◌++◌, List, ℕ, length, take, sym, ap, ◌∙◌, arith}
use Rattle.std.specs.List.{flat_map}
use Rattle.std.proofs.lemmas.List.{length-take}
use Rattle.std.proofs.lemmas.Slice.{take-put_mid}
use Rattle.field_layout.specs.Payload.{le_bytes}
use Rattle.field_layout.proofs.Bytes.{bytes_as_words, zeros_behind_part}
use Rattle.field_layout.proofs.buffer.Buffer.put_bytes.Goals as goal

pub invariant_of-self : goal.invariant_of-self
invariant_of-self c =
    let held = c.self.inside.bytes in
    let len = c.self.inside.len in
    let n = length c.args.bytes.now in
    let seen : length (take len held) ≡ length c.args.self.now = ap length c.self.view_is in
    let room : len + n ≤ 255 = omega (arith, seen, length-take len held, c.self.told, c.self.invariant.0) in
    (room, zeros_behind_part held c.copy_from_slice.new.self len n (omega arith) (ap length c.copy_from_slice.ensures.after) c.self.invariant.1)

pub returns-clause-bytes : goal.returns-clause-bytes
returns-clause-bytes c =
    let held = c.self.inside.bytes in
    let len = c.self.inside.len in
    let bytes = c.args.bytes.now in
    let part = c.copy_from_slice.new.self in
    let size : len + length bytes ≡ len + length part = omega (arith, ap length c.copy_from_slice.ensures.after) in
    take-put_mid len ((len + length bytes) - len) held part (len + length bytes) size (omega arith) ∙ (ap (λ (l : List ℕ). take len held ++ l) (c.copy_from_slice.ensures.after ∙ sym (bytes_as_words bytes (λ k. (c.type_inv.bytes k).fits))) ∙ ap (λ (l : List ℕ). l ++ flat_map (le_bytes 1) bytes) c.self.view_is)
