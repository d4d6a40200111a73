use Rattle.std.proofs.Common.{ℕ, ◌+◌, bit_xor, get_or, ◌∙◌}
use Rattle.x25_check.proofs.Slicing.{four_bytes}
use Rattle.x25_check.proofs.check.after_four.Goals as goal

pub returns : goal.returns
returns c =
    let byte = λ (k : ℕ). get_or c.args.bytes.now (c.args.at + k) 0 in
    let first : ℕ = get_or c.args.bytes.now c.args.at 0 in
    let fits = λ (k : ℕ). (c.type_inv.bytes k).fits in
    (λ i. bit_xor (bit_xor (c.after_zeros-first.ensures i) (c.after_zeros-second.ensures i)) (bit_xor (c.after_zeros-third.ensures i) (c.after_zeros-fourth.ensures i)))
    ∙ four_bytes c.args.register first (byte 1) (byte 2) (byte 3)
    (fits c.args.at, (fits (c.args.at + 1), (fits (c.args.at + 2), (fits (c.args.at + 3), tt))))
