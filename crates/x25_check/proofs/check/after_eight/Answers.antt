use Rattle.std.proofs.Common.{ℕ, ◌+◌, bit_xor, get_or, ◌∙◌}
use Rattle.x25_check.proofs.Slicing.{eight_bytes}
use Rattle.x25_check.proofs.check.after_eight.Goals as goal

pub returns : goal.returns
returns c =
    let byte = λ (k : ℕ). get_or c.args.bytes.now (c.args.at + k) 0 in
    let first : ℕ = get_or c.args.bytes.now c.args.at 0 in
    let fits = λ (k : ℕ). (c.type_inv.bytes k).fits in
    (λ i. bit_xor (bit_xor (c.after_zeros-first.ensures i) (c.after_zeros-second.ensures i)) (bit_xor (c.after_zeros-third.ensures i) (bit_xor (c.after_zeros-fourth.ensures i) (bit_xor (c.after_zeros-fifth.ensures i) (bit_xor (c.after_zeros-sixth.ensures i) (bit_xor (c.after_zeros-seventh.ensures i) (c.after_zeros-eighth.ensures i)))))))
    ∙ eight_bytes c.args.register first (byte 1) (byte 2) (byte 3) (byte 4) (byte 5) (byte 6) (byte 7)
    (fits c.args.at, (fits (c.args.at + 1), (fits (c.args.at + 2), (fits (c.args.at + 3), (fits (c.args.at + 4), (fits (c.args.at + 5), (fits (c.args.at + 6), (fits (c.args.at + 7), tt))))))))
