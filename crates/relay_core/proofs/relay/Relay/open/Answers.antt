use Rattle.std.proofs.Common.{◌∙◌, ◌<◌, ◌++◌, ◌∷◌, [], length, ap, subst, sym}
use Rattle.mav_stream.specs.Held.{Held}
use Rattle.relay_core.specs.RelayRuns.{Holds, RelayKept}
use Rattle.relay_core.proofs.CallSteps.{opens_run}
use Rattle.relay_core.proofs.relay.Relay.open.Goals as goal

pub returns-clause-opens : goal.returns-clause-opens
returns-clause-opens c = λ start run is holds.
    let inside = c.self.inside in
    let rules = c.args.rules.now in
    let old : RelayKept = record { links = inside.links; scanners = inside.scanners; queues = inside.queues } in
    let new : RelayKept = record { links = c.open-3.new.self; scanners = c.open-2.new.self; queues = c.«open».new.self } in
    let few = subst (λ (v : RelayKept). length v.links.links < 32) (sym c.self.view_is) c.requires.few in
    let scanners = c.open-2.ensures ∙ ap (λ (h : Held). inside.scanners ++ h ∷ []) c.in_ok-scanner.ensures in
    opens_run rules start run c.args.port old new c.requires.from c.requires.to few c.self.invariant.0 c.self.invariant.1 c.open-3.ensures.state scanners c.in_ok-open.ensures.queues is
    (subst (λ (v : RelayKept). Holds rules run v) (sym c.self.view_is) holds)
