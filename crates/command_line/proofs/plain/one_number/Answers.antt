use Rattle.std.proofs.Common.{◌∙◌, ap, map, string_bytes}
use Rattle.command_line.specs.Numbers.{number_in}
use Rattle.command_line.proofs.OneNumber.{one_word, one_read}
use Rattle.command_line.proofs.plain.one_number.Goals as goal

pub returns-in-len1-clause-read : goal.returns-in-len1-clause-read
returns-in-len1-clause-read c =
    let words = c.args.words.now in
    let item = c.word-item.result in
    one_read (map string_bytes words) (string_bytes item) c.number.result (one_word words item c.in-len1.len_at_least c.in-len1.len_below c.word-item.is)
    (c.number.ensures.exact ∙ ap (number_in 0 1000000) c.as_str.ensures.value)
