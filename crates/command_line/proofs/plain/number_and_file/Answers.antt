use Rattle.std.proofs.Common.{◌∙◌, refl, sym, arith, map, string_bytes}
use Rattle.command_line.proofs.NodesHeld.{two_held, no_number, no_file, number_read}
use Rattle.command_line.proofs.plain.number_and_file.Goals as goal

pub returns-in_default : goal.returns-in_default
returns-in_default c = no_number c.args.most c.args.words.now (λ least few. omega (arith, c.in_default.len_below, least))

pub returns-in_default-2 : goal.returns-in_default-2
returns-in_default-2 c = no_number c.args.most c.args.words.now (λ least few. omega (arith, c.in_default.len_at_least, few))

pub returns-then-not-is_some_text : goal.returns-then-not-is_some_text
returns-then-not-is_some_text c =
    let words = c.args.words.now in
    let w = c.as_str.result.now in
    no_file c.args.most (map string_bytes words) (string_bytes c.word-item.result) w
    (two_held words c.word-item.result c.file-item.result (string_bytes c.word-item.result) w c.in-len2.len_at_least c.in-len2.len_below c.word-item.is c.file-item.is refl c.as_str.ensures.value)
    (sym c.is_some_text.ensures ∙ c.if-not-is_some_text.true)

pub returns-else-not-is_some_text : goal.returns-else-not-is_some_text
returns-else-not-is_some_text c =
    let words = c.args.words.now in
    let v = c.as_str-in-len2.result.now in
    let w = c.as_str.result.now in
    number_read c.args.most (map string_bytes words) v w c.number.result
    (two_held words c.word-item.result c.file-item.result v w c.in-len2.len_at_least c.in-len2.len_below c.word-item.is c.file-item.is c.as_str-in-len2.ensures.value c.as_str.ensures.value)
    (sym c.is_some_text.ensures ∙ c.if-not-is_some_text.false) c.number.ensures.exact
