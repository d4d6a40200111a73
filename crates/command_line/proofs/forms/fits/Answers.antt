use Rattle.std.proofs.Common.{◌∙◌, sym, map, string_bytes}
use Rattle.command_line.specs.Lines.{given_of}
use Rattle.command_line.proofs.FormsAgree.{not_taken, not_needed, all_hold}
use Rattle.command_line.proofs.forms.fits.Goals as goal

pub returns-then-not-are_taken : goal.returns-then-not-are_taken
returns-then-not-are_taken c =
    let line = c.args.line.now in
    not_taken line.command line.settings.items (map string_bytes line.words.items) (rw c.deref.ensures.value at (sym c.are_taken.ensures ∙ c.if-not-are_taken.true))

pub returns-then-not-has_needed : goal.returns-then-not-has_needed
returns-then-not-has_needed c =
    let line = c.args.line.now in
    not_needed line.command (map given_of line.settings.items) (map string_bytes line.words.items) (rw c.deref-3.ensures.value at (sym c.has_needed.ensures ∙ c.if-not-has_needed.true))

pub returns : goal.returns
returns c =
    let line = c.args.line.now in
    c.is_stdin_once.ensures
    ∙ all_hold line.command line.settings.items (map string_bytes line.words.items)
    (sym c.is_built.ensures ∙ c.if-not-is_built.false)
    (rw c.deref.ensures.value at (sym c.are_taken.ensures ∙ c.if-not-are_taken.false))
    (rw c.deref-2.ensures.value at (sym c.all_differ.ensures ∙ c.if-not-all_differ.false))
    (rw c.deref-3.ensures.value at (sym c.has_needed.ensures ∙ c.if-not-has_needed.false))
    c.requires
