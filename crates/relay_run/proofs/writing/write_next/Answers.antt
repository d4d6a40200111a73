use Rattle.std.proofs.Common.{◌∙◌, ℕ, List, [], Option, take, get_or, sym, subst, ap, arith}
use Rattle.std.specs.Option.{option_map}
use Rattle.std.proofs.lemmas.Option.{slice_get-get_or}
use Rattle.relay_hub.specs.Hubs.{HubState, takes}
use Rattle.relay_core.specs.Calls.{RunIs}
use Rattle.relay_core.specs.Moves.{took_run}
use Rattle.relay_core.specs.Waitings.{nothing_waits}
use Rattle.relay_run.specs.Rounds.{Goes}
use Rattle.relay_run.proofs.Agreeing.{takes_nothing}
use Rattle.relay_run.proofs.Changes.{goes_same, goes_took}
use Rattle.relay_run.proofs.writing.write_next.Goals as goal

pub returns-then-count-eq0-clause-goes : goal.returns-then-count-eq0-clause-goes
returns-then-count-eq0-clause-goes g c = λ rules.
    let hub = g.H.Hub.state c.args.hub.now in
    let index = c.args.index in
    let view = c.args.relay.now in
    let was = c.args.watcher.now in
    let is = c.write-count.ensures.state ∙ ap (λ (n : ℕ). option_map (takes index (take n c.next_bytes.result.now)) hub) c.if-count-eq0.true in
    subst (λ (o : Option HubState). Goes rules g.W.Watcher.told was was hub o view view) (sym is)
    (goes_same rules g.W.Watcher.told was hub (takes index []) view (λ s. (ap (λ (h : HubState). h.tapes) (takes_nothing index s), ap (λ (h : HubState). h.links) (takes_nothing index s))))

pub returns-clause-goes : goal.returns-clause-goes
returns-clause-goes g c = λ rules.
    let hub = g.H.Hub.state c.args.hub.now in
    let index = c.args.index in
    let count = c.write-count.result in
    let old = c.args.relay.now in
    let new = c.wrote.new.self in
    let bytes = c.next_bytes.result.now in
    let was = c.args.watcher.now in
    let is = c.note.new.self in
    let waiting = get_or old.queues index nothing_waits in
    let there = slice_get-get_or old.queues index nothing_waits (omega (arith, c.requires.within, c.next_bytes.ensures.whole.1)) in
    subst (λ (o : Option HubState). Goes rules g.W.Watcher.told was is hub o old new) (sym c.write-count.ensures.state)
    (goes_took rules g.W.Watcher.told was is hub old new index c.link-link.result.number c.link-link.result.port count (take count bytes)
    (λ start run goes. subst (λ (l : List ℕ). RunIs rules start (took_run index (take count l) run) new) (sym (c.next_bytes.ensures.bytes waiting there)) (c.wrote.ensures.takes rules start run waiting goes.is_run goes.holds there))
    c.note.ensures)
