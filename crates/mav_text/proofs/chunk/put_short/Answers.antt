use Rattle.std.proofs.Common.{◌≡◌, ℕ, ◌+◌, take, ap, ◌∙◌, arith}
use Rattle.mav_text.proofs.ChunkSteps.{short_put}
use Rattle.mav_text.proofs.chunk.put_short.Goals as goal

pub returns-clause-text : goal.returns-clause-text
returns-clause-text g c =
    let second = c.put_eight-second in let third = c.put_eight-third in let last = c.put_eight-end in
    let end : c.args.at + 24 ≡ last.result = omega (arith, second.ensures.index, third.ensures.index, last.ensures.index) in
    short_put c.args.at c.args.len c.args.chunk.now second.new.chunk third.new.chunk last.new.chunk c.args.part.now second.result third.result (omega (arith, c.requires.room, c.told-chunk)) (omega (arith, c.requires.part, c.told-part)) c.requires.len second.ensures.text third.ensures.text
    (ap (λ (k : ℕ). take k last.new.chunk) end ∙ last.ensures.text)
