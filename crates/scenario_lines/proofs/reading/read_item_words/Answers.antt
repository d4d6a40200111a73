-- Each form, read word by word, is what the grammar says of its first word.
use Rattle.std.proofs.Common.{sym, ◌∙◌}
use Rattle.scenario_lines.proofs.ItemForms.{item_only, items_only}
use Rattle.scenario_lines.proofs.FirstWords.{spelled}
use Rattle.scenario_lines.proofs.reading.read_item_words.Goals as goal

pub returns-then-is_word : goal.returns-then-is_word
returns-then-is_word c =
    c.read_item.ensures
    ∙ sym (item_only c.args.drafted c.args.words.now (sym c.at-first.ensures ∙ spelled _ _ c.if-is_word.ensures))

pub returns-then-is_word-2 : goal.returns-then-is_word-2
returns-then-is_word-2 c =
    c.read_items.ensures
    ∙ sym (items_only c.args.drafted c.args.words.now (sym c.at-first.ensures ∙ spelled _ _ c.if-is_word-2.ensures))
