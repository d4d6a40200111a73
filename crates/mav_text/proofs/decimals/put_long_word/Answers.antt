use Rattle.std.proofs.Common.{ℕ, ◌/◌, ◌%◌, ◌^◌}
use Rattle.mav_text.specs.FrameText.{word_hex}
use Rattle.mav_text.proofs.DecimalSteps.{two_put, long_word}
use Rattle.mav_text.proofs.decimals.put_long_word.Goals as goal

pub returns-clause-text : goal.returns-clause-text
returns-clause-text g c =
    let word : ℕ = c.args.word in
    two_put _ _ _ (word_hex 4 (word / 2 ^ 32)) (word_hex 4 (word % 2 ^ 32)) (word_hex 8 word) c.put_word-index.ensures.text c.put_word.ensures.text (long_word word)
