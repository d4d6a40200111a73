use Rattle.std.proofs.Common.{◌≡◌, ◌∙◌, false, sym, ap, subst, map, string_bytes, Err, None}
use Rattle.std.proofs.lemmas.Result.{err_from_is_err_and}
use Rattle.command_line.specs.declared.faults.WantedFault.TheVariants.{Usage}
use Rattle.command_line.specs.declared.commands.OptionName.TheVariants.{File}
use Rattle.command_line.specs.Forms.{has_given}
use Rattle.command_line.specs.Lines.{given_of, parts_of, plain_now, PlainRead}
use Rattle.command_line.proofs.FormsAgree.{plain_unfit}
use Rattle.command_line.proofs.Readings.{asks_at, nothing_at, unfit_at}
use Rattle.command_line.proofs.reading.read.Goals as goal

pub returns-in_err-reader-clause-usage : goal.returns-in_err-reader-clause-usage
returns-in_err-reader-clause-usage c =
    let e = err_from_is_err_and c.from_residual.result c.from_residual.ensures.1 in
    let words = map string_bytes c.args.words.now in
    rw (e.1, e.2) (λ usage. nothing_at words _ c.in-Some.command c.in-Some.ensures (c.in_err-reader.ensures.refused (ap Err (let same : c.in_err-reader.field-0.0 ≡ Usage = cc usage in same))))

pub returns-in_default-2-clause-usage : goal.returns-in_default-2-clause-usage
returns-in_default-2-clause-usage c = λ usage.
    let words = map string_bytes c.args.words.now in
    let r = c.in_ok-reader.reader in
    let plain = map string_bytes r.words.items in
    let gs = map given_of r.settings.items in
    let read : PlainRead c.in-Some.command (has_given File gs) plain c.in_ok-values.field-0 =
    rw (c.has_given-file_given.ensures, c.deref.ensures.value, c.deref-2.ensures.value) at c.in_ok-values.ensures in
    let none : c.in_ok-values.field-0 ≡ None = cc c.in_default-2.is in
    let unfit : plain_now c.in-Some.command (has_given File gs) plain ≡ false = subst (PlainRead c.in-Some.command (has_given File gs) plain) none read in
    unfit_at words _ c.in-Some.command c.in-Some.ensures (parts_of r.settings.items r.words.items) c.in_ok-reader.ensures.parts
    (plain_unfit c.in-Some.command gs plain unfit)

pub returns-then-fits-clause-asks : goal.returns-then-fits-clause-asks
returns-then-fits-clause-asks c =
    let r = c.in_ok-reader.reader in
    asks_at (map string_bytes c.args.words.now) _ c.in-Some.command c.in-Some.ensures (parts_of r.settings.items r.words.items)
    c.in_ok-reader.ensures.parts (sym c.fits.ensures ∙ c.if-fits.true)

pub returns-else-fits-clause-usage : goal.returns-else-fits-clause-usage
returns-else-fits-clause-usage c = λ usage.
    let r = c.in_ok-reader.reader in
    unfit_at (map string_bytes c.args.words.now) _ c.in-Some.command c.in-Some.ensures (parts_of r.settings.items r.words.items)
    c.in_ok-reader.ensures.parts (sym c.fits.ensures ∙ c.if-fits.false)
