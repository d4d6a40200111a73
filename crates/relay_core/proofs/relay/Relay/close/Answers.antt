use Rattle.std.proofs.Common.{◌<◌, length, subst, sym}
use Rattle.relay_core.specs.RelayRuns.{Holds, RelayKept}
use Rattle.relay_core.proofs.CallSteps.{closes_run}
use Rattle.relay_core.proofs.relay.Relay.close.Goals as goal

pub returns-clause-closes : goal.returns-clause-closes
returns-clause-closes c = λ rules start run is holds.
    let inside = c.self.inside in
    let old : RelayKept = record { links = inside.links; scanners = inside.scanners; queues = inside.queues } in
    let new : RelayKept = record { links = c.close.new.self; scanners = c.close-2.new.self; queues = c.close-3.new.self } in
    let within = subst (λ (v : RelayKept). c.args.index < length v.links.links) (sym c.self.view_is) c.requires in
    closes_run rules start run c.args.index c.close-3.result old new within c.self.invariant.0 c.self.invariant.1 c.close.ensures.state c.close-2.ensures c.close-3.ensures.queues c.close-3.ensures.dropped is
    (subst (λ (v : RelayKept). Holds rules run v) (sym c.self.view_is) holds)
