use Rattle.std.proofs.Common.{◌≡◌, ◌∙◌, [], sym, ap, refl, map, string_bytes, Err}
use Rattle.std.proofs.lemmas.Result.{err_from_is_err_and}
use Rattle.command_line.specs.declared.faults.WantedFault.TheVariants.{Usage}
use Rattle.command_line.specs.declared.pieces.Place.TheVariants.{Anything}
use Rattle.command_line.specs.Lines.{with_rest}
use Rattle.command_line.specs.Pieces.{joined, parts_at}
use Rattle.command_line.proofs.Wholes.{joined_nothing, whole_parts, value_missing}
use Rattle.command_line.proofs.reading.read_behind.Goals as goal

pub returns-in_err-take_all-clause-refused : goal.returns-in_err-take_all-clause-refused
returns-in_err-take_all-clause-refused c =
    let e = err_from_is_err_and c.from_residual.result c.from_residual.ensures.1 in
    let ws = map string_bytes c.args.words.now in
    let r = c.new-reader.result in
    let start : with_rest r.place r.settings.items r.words.items ws ≡ joined [] [] (parts_at Anything ws) = rw (c.new-reader.ensures.place, c.new-reader.ensures.settings, c.new-reader.ensures.words) refl in
    rw (e.1, e.2) (λ usage. sym (joined_nothing (parts_at Anything ws)) ∙ sym start ∙ c.in_err-take_all.ensures.refused (ap Err (let same : c.in_err-take_all.field-0.0 ≡ Usage = cc usage in same)))

pub returns-then-is_whole-clause-parts : goal.returns-then-is_whole-clause-parts
returns-then-is_whole-clause-parts c =
    let ws = map string_bytes c.args.words.now in
    let r = c.new-reader.result in let end = c.take_all.new.self in
    let start : with_rest r.place r.settings.items r.words.items ws ≡ joined [] [] (parts_at Anything ws) = rw (c.new-reader.ensures.place, c.new-reader.ensures.settings, c.new-reader.ensures.words) refl in
    whole_parts end.settings.items end.words.items ws end.place (sym c.is_whole.ensures ∙ c.if-is_whole.true) (c.in_ok-take_all.ensures.taken ∙ start)

pub returns-else-is_whole-clause-refused : goal.returns-else-is_whole-clause-refused
returns-else-is_whole-clause-refused c = λ usage.
    let ws = map string_bytes c.args.words.now in
    let r = c.new-reader.result in let end = c.take_all.new.self in
    let start : with_rest r.place r.settings.items r.words.items ws ≡ joined [] [] (parts_at Anything ws) = rw (c.new-reader.ensures.place, c.new-reader.ensures.settings, c.new-reader.ensures.words) refl in
    value_missing end.settings.items end.words.items ws end.place (sym c.is_whole.ensures ∙ c.if-is_whole.false) (c.in_ok-take_all.ensures.taken ∙ start)
