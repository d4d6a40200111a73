-- What is read of the words is the result for the line.
use Rattle.std.proofs.Common.{sym, ◌∙◌}
use Rattle.scenario_lines.specs.LineContext.{context_of}
use Rattle.scenario_lines.proofs.FirstWords.{spelled}
use Rattle.scenario_lines.proofs.Forms.{noise_reads}
use Rattle.scenario_lines.proofs.WholeLines.{said_of, said_ok, said_permitted, said_bad}
use Rattle.scenario_lines.proofs.reading.read.Goals as goal

pub returns-then-is_word-clause-ok : goal.returns-then-is_word-clause-ok
returns-then-is_word-clause-ok g c =
    let s = context_of (g.N.Names.known c.args.nodes.now) c.args.drafted c.args.clock in
    said_ok s c.args.text.now c.in_ok-words.words _ c.if-text-gt-MOST_LINE_BYTES.false (sym c.if-is_blank.ensures) c.in_ok-words.ensures
    (said_of _ _ _ (sym (noise_reads s c.in_ok-words.words (sym c.at.ensures ∙ spelled _ _ c.if-is_word.ensures))) c.read_noise.ensures)

pub returns-clause-ok : goal.returns-clause-ok
returns-clause-ok g c =
    let s = context_of (g.N.Names.known c.args.nodes.now) c.args.drafted c.args.clock in
    said_ok s c.args.text.now c.in_ok-words.words _ c.if-text-gt-MOST_LINE_BYTES.false (sym c.if-is_blank.ensures) c.in_ok-words.ensures
    (said_of _ _ _ c.read_words.ensures c.faulted.ensures)

pub returns-then-is_word-clause-permitted : goal.returns-then-is_word-clause-permitted
returns-then-is_word-clause-permitted g c =
    let s = context_of (g.N.Names.known c.args.nodes.now) c.args.drafted c.args.clock in
    said_permitted s c.args.text.now c.in_ok-words.words _ c.if-text-gt-MOST_LINE_BYTES.false (sym c.if-is_blank.ensures) c.in_ok-words.ensures
    (said_of _ _ _ (sym (noise_reads s c.in_ok-words.words (sym c.at.ensures ∙ spelled _ _ c.if-is_word.ensures))) c.read_noise.ensures)

pub returns-clause-permitted : goal.returns-clause-permitted
returns-clause-permitted g c =
    let s = context_of (g.N.Names.known c.args.nodes.now) c.args.drafted c.args.clock in
    said_permitted s c.args.text.now c.in_ok-words.words _ c.if-text-gt-MOST_LINE_BYTES.false (sym c.if-is_blank.ensures) c.in_ok-words.ensures
    (said_of _ _ _ c.read_words.ensures c.faulted.ensures)

pub returns-then-is_word-clause-bad : goal.returns-then-is_word-clause-bad
returns-then-is_word-clause-bad g c =
    let s = context_of (g.N.Names.known c.args.nodes.now) c.args.drafted c.args.clock in
    said_bad s c.args.text.now c.in_ok-words.words _ c.if-text-gt-MOST_LINE_BYTES.false (sym c.if-is_blank.ensures) c.in_ok-words.ensures
    (said_of _ _ _ (sym (noise_reads s c.in_ok-words.words (sym c.at.ensures ∙ spelled _ _ c.if-is_word.ensures))) c.read_noise.ensures)

pub returns-clause-bad : goal.returns-clause-bad
returns-clause-bad g c =
    let s = context_of (g.N.Names.known c.args.nodes.now) c.args.drafted c.args.clock in
    said_bad s c.args.text.now c.in_ok-words.words _ c.if-text-gt-MOST_LINE_BYTES.false (sym c.if-is_blank.ensures) c.in_ok-words.ensures
    (said_of _ _ _ c.read_words.ensures c.faulted.ensures)
