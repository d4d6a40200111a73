use Rattle.std.proofs.Common.{◌∙◌, ℕ, Bool, false, List, Option, Some, take, refl, sym, subst, ap}
use Rattle.std.specs.Option.{option_map}
use Rattle.std.proofs.lemmas.Result.{err_from_is_err_and}
use Rattle.relay_hub.specs.Hubs.{HubState, adopts, asks}
use Rattle.relay_run.specs.declared.stops.Stop.{Stop}
use Rattle.relay_run.specs.declared.stops.Stop.TheVariants.{NoMemory}
use Rattle.relay_run.specs.Rounds.{Goes, GoesInPart}
use Rattle.relay_run.specs.Taking.{joins}
use Rattle.relay_run.proofs.Agreeing.{adopted_as, to_end}
use Rattle.relay_run.proofs.Changes.{goes_asked, goes_same, stops_asking}
use Rattle.relay_run.proofs.strangers.hear_stranger.Goals as goal

pub returns-in_err-from-clause-stops : goal.returns-in_err-from-clause-stops
returns-in_err-from-clause-stops g c =
    let p = err_from_is_err_and c.from_residual.result c.from_residual.ensures.1 in
    let rules = c.args.rules.now in
    let hub = g.H.Hub.state c.args.hub.now in
    let was = c.args.watcher.now in
    let is = c.judge_stranger.new.watcher in
    let came = c.in-Some.stranger in
    let buf = c.stranger.new.buf in
    rw (p.1, p.2) (subst (λ (o : Option HubState). GoesInPart NoMemory rules g.W.Watcher.told was is hub o c.args.relay.now) (sym c.in-Some.ensures.state)
    (stops_asking rules g.W.Watcher.told NoMemory was c.note.new.self is hub (asks (Some came) buf) c.args.relay.now c.judge_stranger.new.self came.port came.count (take came.count buf) (λ e. cc e) c.judge_stranger.ensures.whole (λ s. refl) c.note.ensures c.in_err-from.ensures.stops))

pub returns-in_default-2-clause-goes : goal.returns-in_default-2-clause-goes
returns-in_default-2-clause-goes g c =
    let rules = c.args.rules.now in
    let hub = g.H.Hub.state c.args.hub.now in
    let was = c.args.watcher.now in
    let is = c.judge_stranger.new.watcher in
    let came = c.in-Some.stranger in
    let buf = c.stranger.new.buf in
    subst (λ (o : Option HubState). Goes rules g.W.Watcher.told was is hub o c.args.relay.now c.judge_stranger.new.self) (sym c.in-Some.ensures.state)
    (goes_asked rules g.W.Watcher.told was c.note.new.self is hub (asks (Some came) buf) c.args.relay.now c.judge_stranger.new.self came.port came.count (take came.count buf) c.in_ok-from.field-0 (λ s. (refl, refl)) c.judge_stranger.ensures.links c.note.ensures c.in_ok-from.ensures.judges)

pub returns-else-adopt-clause-goes : goal.returns-else-adopt-clause-goes
returns-else-adopt-clause-goes g c =
    let rules = c.args.rules.now in
    let hub = g.H.Hub.state c.args.hub.now in
    let was = c.args.watcher.now in
    let is = c.judge_stranger.new.watcher in
    let came = c.in-Some.stranger in
    let buf = c.stranger.new.buf in
    let old = c.args.relay.now in
    let new = c.judge_stranger.new.self in
    let asked = option_map (asks (Some came) buf) hub in
    let told = g.W.Watcher.told in
    let judged = goes_asked rules told was c.note.new.self is hub (asks (Some came) buf) old new came.port came.count (take came.count buf) c.in_ok-from.field-0 (λ s. (refl, refl)) c.judge_stranger.ensures.links c.note.ensures c.in_ok-from.ensures.judges in
    let there = c.adopt.ensures.state ∙ (ap (λ (o : Option HubState). option_map (adopts c.adopt.result c.in-Some-2.from) o) c.in-Some.ensures.state
    ∙ ap (λ (b : Bool). option_map (adopts b c.in-Some-2.from) asked) c.if-adopt.false) in
    subst (λ (o : Option HubState). Goes rules told was is hub o old new) (sym there)
    (λ start first r. goes_same rules told is asked (adopts false c.in-Some-2.from) new (λ s. (refl, refl)) start first (judged start first r))

pub returns-in_ok-take_in-clause-goes : goal.returns-in_ok-take_in-clause-goes
returns-in_ok-take_in-clause-goes g c =
    let rules = c.args.rules.now in
    let hub = g.H.Hub.state c.args.hub.now in
    let was = c.args.watcher.now in
    let mid = c.judge_stranger.new.watcher in
    let is = c.take_in.new.watcher in
    let came = c.in-Some.stranger in
    let buf = c.stranger.new.buf in
    let from = c.in-Some-2.from in
    let old = c.args.relay.now in
    let middle = c.judge_stranger.new.self in
    let asked = option_map (asks (Some came) buf) hub in
    let told = g.W.Watcher.told in
    let judged = goes_asked rules told was c.note.new.self mid hub (asks (Some came) buf) old middle came.port came.count (take came.count buf) c.in_ok-from.field-0 (λ s. (refl, refl)) c.judge_stranger.ensures.links c.note.ensures c.in_ok-from.ensures.judges in
    let there = c.adopt.ensures.state ∙ (ap (λ (o : Option HubState). option_map (adopts c.adopt.result from) o) c.in-Some.ensures.state
    ∙ (ap (λ (b : Bool). option_map (adopts b from) asked) c.if-adopt.true ∙ (adopted_as hub came buf from
    ∙ ap (λ (l : List ℕ). option_map (joins came.port l) asked) (sym (to_end from (take came.count buf)))))) in
    subst (λ (o : Option HubState). Goes rules told was is hub o old c.take_in.new.relay) (sym there)
    (λ start first r. c.in_ok-take_in.ensures.takes asked start first (judged start first r))

pub returns-in_err-take_in-clause-stops : goal.returns-in_err-take_in-clause-stops
returns-in_err-take_in-clause-stops g c =
    let p = err_from_is_err_and c.from_residual-in_err-take_in.result c.from_residual-in_err-take_in.ensures.1 in
    let rules = c.args.rules.now in
    let hub = g.H.Hub.state c.args.hub.now in
    let was = c.args.watcher.now in
    let mid = c.judge_stranger.new.watcher in
    let is = c.take_in.new.watcher in
    let came = c.in-Some.stranger in
    let buf = c.stranger.new.buf in
    let from = c.in-Some-2.from in
    let old = c.args.relay.now in
    let middle = c.judge_stranger.new.self in
    let asked = option_map (asks (Some came) buf) hub in
    let told = g.W.Watcher.told in
    let stop = c.in_err-take_in.field-0.0 in
    let judged = goes_asked rules told was c.note.new.self mid hub (asks (Some came) buf) old middle came.port came.count (take came.count buf) c.in_ok-from.field-0 (λ s. (refl, refl)) c.judge_stranger.ensures.links c.note.ensures c.in_ok-from.ensures.judges in
    let there = c.adopt.ensures.state ∙ (ap (λ (o : Option HubState). option_map (adopts c.adopt.result from) o) c.in-Some.ensures.state
    ∙ (ap (λ (b : Bool). option_map (adopts b from) asked) c.if-adopt.true ∙ (adopted_as hub came buf from
    ∙ ap (λ (l : List ℕ). option_map (joins came.port l) asked) (sym (to_end from (take came.count buf)))))) in
    rw p.1 (subst (λ (s : Stop). GoesInPart s rules told was is hub (g.H.Hub.state c.adopt.new.self) old) (sym p.2)
    (subst (λ (o : Option HubState). GoesInPart stop rules told was is hub o old) (sym there)
    (λ start first r. c.in_err-take_in.ensures.stops asked start first (judged start first r))))
