use Rattle.std.proofs.Common.{◌≡◌, ℕ, ◌+◌, length, take, ap, ◌∙◌, arith}
use Rattle.mav_text.proofs.ChunkSteps.{prefix_put}
use Rattle.mav_text.proofs.chunk.put_of_four.Goals as goal

pub returns-clause-text : goal.returns-clause-text
returns-clause-text g c =
    let all : length c.args.four ≡ 4 = omega arith in
    prefix_put c.args.at c.args.len c.args.chunk.now c.put_four.new.chunk c.args.four (omega arith) (omega arith) (ap (λ (n : ℕ). take (c.args.at + n) c.put_four.new.chunk) all ∙ c.put_four.ensures)
