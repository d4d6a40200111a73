use Rattle.std.proofs.Common.{◌≡◌, ◌+◌, ◌-◌, ℕ, take, drop, ap, ◌∙◌, arith}
use Rattle.mav_messages.proofs.Decoded.{part_as_words}
use Rattle.mav_messages.proofs.words.bytes_at.Goals as goal

pub returns : goal.returns
returns g c =
    let payload = c.args.payload.now in
    let count : (c.args.at + g.row.N) - c.args.at ≡ g.row.N = omega arith in
    c.copy_from_slice.ensures.after ∙ (ap (λ (n : ℕ). take n (drop c.args.at payload)) count ∙ part_as_words payload c.args.at g.row.N (omega arith))
