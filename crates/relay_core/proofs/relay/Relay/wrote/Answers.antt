use Rattle.std.proofs.Common.{◌≡◌, ◌<◌, length, slice_get, Some, refl, subst, sym}
use Rattle.relay_core.specs.RelayRuns.{Holds, RelayKept}
use Rattle.relay_core.proofs.TapeSteps.{takes_run}
use Rattle.relay_core.proofs.relay.Relay.wrote.Goals as goal

pub returns-clause-takes : goal.returns-clause-takes
returns-clause-takes c = λ rules start run waiting is holds there.
    let inside = c.self.inside in
    let old : RelayKept = record { links = inside.links; scanners = inside.scanners; queues = inside.queues } in
    let new : RelayKept = record { links = inside.links; scanners = inside.scanners; queues = c.wrote.new.self } in
    let at = subst (λ (v : RelayKept). slice_get v.queues c.args.index ≡ Some waiting) (sym c.self.view_is) there in
    let within = subst (λ (v : RelayKept). c.args.index < length v.links.links) (sym c.self.view_is) c.requires.within in
    takes_run rules start run c.args.index c.args.count old new waiting within refl refl at (c.wrote.ensures.queues waiting at) is (subst (λ (v : RelayKept). Holds rules run v) (sym c.self.view_is) holds)
