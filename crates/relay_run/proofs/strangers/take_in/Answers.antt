use Rattle.std.proofs.Common.{ℕ, [], length, refl, sym, subst}
use Rattle.std.specs.Option.{option_map}
use Rattle.std.proofs.lemmas.Result.{err_from_is_err_and}
use Rattle.relay_core.specs.Calls.{Hears, HearsInPart}
use Rattle.relay_run.specs.declared.stops.Stop.{Stop}
use Rattle.relay_run.specs.declared.stops.Stop.TheVariants.{NoMemory}
use Rattle.relay_run.specs.Rounds.{GoesInPart}
use Rattle.relay_run.specs.Taking.{TakesInPart, joins}
use Rattle.relay_run.proofs.Changes.{goes_joining, stops_joining, stops_opening}
use Rattle.relay_run.proofs.strangers.take_in.Goals as goal

pub returns-in_err-open_link-clause-stops : goal.returns-in_err-open_link-clause-stops
returns-in_err-open_link-clause-stops g c =
    let p = err_from_is_err_and c.from_residual.result c.from_residual.ensures.1 in
    let stop = c.in_err-open_link.field-0.0 in
    let refused = c.in_err-open_link.ensures in
    let rules = c.args.rules.now in
    let view = c.args.relay.now in
    let port = c.args.port in
    let bytes = c.args.bytes.now in
    let was = c.args.watcher.now in
    rw p.1 (subst (λ (s : Stop). TakesInPart s rules port bytes g.W.Watcher.told was c.open_link.new.watcher view) (sym p.2)
    (λ hub. subst (λ (w : g.row.W.Denot). GoesInPart stop rules g.W.Watcher.told was w hub (option_map (joins port bytes) hub) view) (sym refused.untold)
    (stops_opening rules g.W.Watcher.told stop was hub (joins port bytes) view (record { port = port; given = bytes; taken = [] }) (λ s. refl) refused.whole refused.spent)))

pub returns-in_err-hear-clause-stops : goal.returns-in_err-hear-clause-stops
returns-in_err-hear-clause-stops g c =
    let p = err_from_is_err_and c.from_residual-in_err-hear.result c.from_residual-in_err-hear.ensures.1 in
    let opened = c.in_ok-open_link.ensures in
    let middle = c.open_link.new.relay in
    let rules = c.args.rules.now in
    let bytes = c.args.bytes.now in
    rw (p.1, p.2) (λ hub.
    stops_joining rules g.W.Watcher.told NoMemory c.args.watcher.now c.open_link.new.watcher c.note.new.self c.hear.new.watcher hub c.args.relay.now middle c.args.port c.link-number.result.number (length bytes) bytes (λ e. cc e) opened.opens opened.told c.note.ensures
    (subst (λ (n : ℕ). HearsInPart rules n bytes middle g.W.Watcher.told c.note.new.self c.hear.new.watcher) c.len-index.ensures.count c.in_err-hear.ensures.stops))

pub returns-clause-takes : goal.returns-clause-takes
returns-clause-takes g c = λ hub.
    let opened = c.in_ok-open_link.ensures in
    let middle = c.open_link.new.relay in
    let rules = c.args.rules.now in
    let bytes = c.args.bytes.now in
    goes_joining rules g.W.Watcher.told c.args.watcher.now c.open_link.new.watcher c.note.new.self c.hear.new.watcher hub c.args.relay.now middle c.hear.new.self c.args.port c.link-number.result.number (length bytes) bytes opened.opens opened.told c.hear.ensures.links c.note.ensures
    (subst (λ (n : ℕ). Hears rules n bytes middle c.hear.new.self g.W.Watcher.told c.note.new.self c.hear.new.watcher) c.len-index.ensures.count c.in_ok-hear.ensures.hears)
