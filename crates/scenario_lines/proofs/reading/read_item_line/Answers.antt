-- What is read of the words is the result for the line.
use Rattle.std.proofs.Common.{sym}
use Rattle.scenario_lines.proofs.WholeLines.{said_of, items_ok, items_of_items, items_bad}
use Rattle.scenario_lines.proofs.reading.read_item_line.Goals as goal

pub returns-clause-ok : goal.returns-clause-ok
returns-clause-ok c =
    items_ok c.args.drafted c.args.text.now c.in_ok-words.words _ c.if-text-gt-MOST_LINE_BYTES.false (sym c.if-is_blank.ensures) c.in_ok-words.ensures
    (said_of _ _ _ c.read_item_words.ensures c.faulted.ensures)

pub returns-clause-bad : goal.returns-clause-bad
returns-clause-bad c =
    items_bad c.args.drafted c.args.text.now c.in_ok-words.words _ c.if-text-gt-MOST_LINE_BYTES.false (sym c.if-is_blank.ensures) c.in_ok-words.ensures
    (said_of _ _ _ c.read_item_words.ensures c.faulted.ensures)

pub returns-clause-items : goal.returns-clause-items
returns-clause-items c = items_of_items c.args.drafted c.in_ok-words.words _ (said_of _ _ _ c.read_item_words.ensures c.faulted.ensures)
