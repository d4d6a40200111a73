use Rattle.std.proofs.Common.{◌≡◌, ◌∙◌, ◌+◌, ◌∷◌, sym, ap, map, string_bytes, drop, drop-cons, add-one, arith, ◌<◌, length, Err}
use Rattle.std.proofs.lemmas.Result.{err_from_is_err_and}
use Rattle.command_line.specs.declared.faults.WantedFault.TheVariants.{Usage}
use Rattle.command_line.specs.Lines.{given_of, with_rest}
use Rattle.command_line.specs.Pieces.{joined}
use Rattle.command_line.proofs.Taken.{one_taken, all_taken}
use Rattle.command_line.proofs.reading.Reader.take_all.Goals as goal

pub returns-in_err-take-clause-refused : goal.returns-in_err-take-clause-refused
returns-in_err-take-clause-refused c =
    let e = err_from_is_err_and c.from_residual.result c.from_residual.ensures.1 in
    let r = c.loop-word.self in
    let i = c.loop-word.word-index in
    let ws = c.args.words.now in
    let item = c.word-item.result in
    let rest = map string_bytes (drop (i + 1) ws) in
    let within : i < length ws = omega arith in
    let here : map string_bytes (drop i ws) ≡ c.as_str.result.now ∷ rest = rw (add-one, drop-cons ws i item within, ← c.word-item.is, c.as_str.ensures.value) in
    rw (e.1, e.2) (λ usage. sym c.loop-word.invariant ∙ ap (with_rest r.place r.settings.items r.words.items) here
    ∙ ap (joined (map given_of r.settings.items) (map string_bytes r.words.items)) (c.in_err-take.ensures.refused rest (ap Err (let same : c.in_err-take.field-0.0 ≡ Usage = cc usage in same))))

pub returns-in_err-take-clause-taken : goal.returns-in_err-take-clause-taken
returns-in_err-take-clause-taken c = let e = err_from_is_err_and c.from_residual.result c.from_residual.ensures.1 in rw e.1 tt

pub loop-word-preserved : goal.loop-word-preserved
loop-word-preserved c =
    let r = c.loop-word.self in
    let end = c.take.new.self in
    one_taken r.place r.settings.items r.words.items c.args.words.now c.loop-word.word-index _ c.loop-word.invariant
    end.place end.settings.items end.words.items c.word-item.result c.as_str.result.now (omega arith) c.word-item.is c.as_str.ensures.value
    (c.in_ok-take.ensures.taken (map string_bytes (drop (c.loop-word.word-index + 1) c.args.words.now)))

pub returns-clause-taken : goal.returns-clause-taken
returns-clause-taken c =
    let r = c.loop-word.self in
    all_taken r.place r.settings.items r.words.items c.args.words.now c.loop-word.word-index _ c.loop-word.invariant (omega arith)

pub returns-clause-refused : goal.returns-clause-refused
returns-clause-refused c usage = absurd (cc usage)
