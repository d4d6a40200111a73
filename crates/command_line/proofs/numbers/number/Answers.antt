use Rattle.std.proofs.Common.{◌≡◌, ◌∙◌, sym, ap, arith, Ok}
use Rattle.std.proofs.lemmas.Slice.Eq.{bytes_eq-Decides}
use Rattle.std.proofs.lemmas.Fmt.{parse-decimal}
use Rattle.std.specs.Fmt.{decimal}
use Rattle.command_line.proofs.Numerals.{number_written, number_unwritten}
use Rattle.command_line.proofs.numbers.number.Goals as goal

-- what isn't read as a number isn't how one is written
pub returns-in_default-clause-exact : goal.returns-in_default-clause-exact
returns-in_default-clause-exact c =
    number_unwritten c.args.low c.args.high c.args.word.now c.ranges.high.fits (λ n small is.
    let read : c.parse.result ≡ Ok n = parse-decimal 64 n c.args.word.now c.parse.result small small is c.parse.ensures.value.0 in
    cc (c.in_default.is, read))

pub returns-then-not-is_written-clause-exact : goal.returns-then-not-is_written-clause-exact
returns-then-not-is_written-clause-exact c =
    number_unwritten c.args.low c.args.high c.args.word.now c.ranges.high.fits (λ n small is.
    let read : c.parse.result ≡ Ok n = parse-decimal 64 n c.args.word.now c.parse.result small small is c.parse.ensures.value.0 in
    let same : c.in-Ok.value ≡ n = cc (c.in-Ok.is, read) in
    let written = (bytes_eq-Decides (decimal c.in-Ok.value) c.args.word.now).1 (ap decimal same ∙ sym is) in
    cc (sym c.is_written.ensures ∙ c.if-not-is_written.true, written))

pub returns-clause-exact : goal.returns-clause-exact
returns-clause-exact c =
    c.within.ensures.exact ∙ sym (number_written c.args.low c.args.high c.in-Ok.value c.args.word.now (let read = c.in-Ok.ensures.value.0 in omega (arith, read.0.1, read.1))
    (sym ((bytes_eq-Decides (decimal c.in-Ok.value) c.args.word.now).0 (sym c.is_written.ensures ∙ c.if-not-is_written.false))))
