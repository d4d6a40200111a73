use Rattle.std.proofs.Common.{◌∙◌, ℕ, [], Option, take, sym, subst, ap}
use Rattle.std.specs.Option.{option_map}
use Rattle.std.proofs.lemmas.Result.{err_from_is_err_and}
use Rattle.relay_hub.specs.Hubs.{HubState, gives}
use Rattle.relay_run.specs.declared.stops.Stop.TheVariants.{NoMemory}
use Rattle.relay_run.specs.Rounds.{Goes, GoesInPart}
use Rattle.relay_run.proofs.Agreeing.{gives_nothing}
use Rattle.relay_run.proofs.Changes.{goes_heard, goes_same, stops_hearing}
use Rattle.relay_run.proofs.reading.read_link.Goals as goal

pub returns-then-count-eq0-clause-goes : goal.returns-then-count-eq0-clause-goes
returns-then-count-eq0-clause-goes g c =
    let hub = g.H.Hub.state c.args.hub.now in
    let index = c.args.index in
    let view = c.args.relay.now in
    let was = c.args.watcher.now in
    let is = c.read-count.ensures.state ∙ ap (λ (n : ℕ). option_map (gives index (take n c.read-count.new.buf)) hub) c.if-count-eq0.true in
    subst (λ (o : Option HubState). Goes c.args.rules.now g.W.Watcher.told was was hub o view view) (sym is)
    (goes_same c.args.rules.now g.W.Watcher.told was hub (gives index []) view (λ s. (ap (λ (h : HubState). h.tapes) (gives_nothing index s), ap (λ (h : HubState). h.links) (gives_nothing index s))))

pub returns-clause-goes : goal.returns-clause-goes
returns-clause-goes g c =
    let hub = g.H.Hub.state c.args.hub.now in
    let index = c.args.index in
    let count = c.read-count.result in
    let was = c.args.watcher.now in
    let is = c.hear.new.watcher in
    subst (λ (o : Option HubState). Goes c.args.rules.now g.W.Watcher.told was is hub o c.args.relay.now c.hear.new.self) (sym c.read-count.ensures.state)
    (goes_heard c.args.rules.now g.W.Watcher.told was c.note.new.self is hub c.args.relay.now c.hear.new.self index c.link-link.result.number c.link-link.result.port count (take count c.read-count.new.buf) c.hear.ensures.links c.note.ensures c.in_ok-hear.ensures.hears)

pub returns-in_err-hear-clause-stops : goal.returns-in_err-hear-clause-stops
returns-in_err-hear-clause-stops g c =
    let p = err_from_is_err_and c.from_residual.result c.from_residual.ensures.1 in
    let hub = g.H.Hub.state c.args.hub.now in
    let index = c.args.index in
    let count = c.read-count.result in
    let was = c.args.watcher.now in
    let is = c.hear.new.watcher in
    rw (p.1, p.2) (subst (λ (o : Option HubState). GoesInPart NoMemory c.args.rules.now g.W.Watcher.told was is hub o c.args.relay.now) (sym c.read-count.ensures.state)
    (stops_hearing c.args.rules.now g.W.Watcher.told NoMemory was c.note.new.self is hub c.args.relay.now index c.link-link.result.number c.link-link.result.port count (take count c.read-count.new.buf) (λ e. cc e) c.note.ensures c.in_err-hear.ensures.stops))
