use Rattle.std.proofs.Common.{◌≡◌, ◌<◌, false, length, subst, sym}
use Rattle.relay_core.specs.Calls.{Hears, HearsInPart}
use Rattle.relay_core.specs.Moves.{Moves, Stops, held_at}
use Rattle.relay_core.specs.RelayRuns.{Holds, IsResting, RelayKept}
use Rattle.relay_core.proofs.Results.{map_both, map_err}
use Rattle.relay_core.proofs.TapeSteps.{hears_in_part, hears_run}
use Rattle.relay_core.proofs.relay.Relay.hear.Goals as goal

pub returns-clause-hears : goal.returns-clause-hears
returns-clause-hears g c =
    let inside = c.self.inside in
    let rules = c.args.rules.now in
    let index = c.args.index in
    let told = g.W.Watcher.told in
    let watcher = c.args.watcher.now in
    let telling = c.hear_all.new.watcher in
    let old : RelayKept = record { links = inside.links; scanners = inside.scanners; queues = inside.queues } in
    let new : RelayKept = record { links = c.hear_all.new.links; scanners = c.hear_all.new.scanners; queues = c.hear_all.new.queues } in
    let within = subst (λ (v : RelayKept). index < length v.links.links) (sym c.self.view_is) c.requires.within in
    map_both c.hear_all.result
    (Moves rules (record { links = inside.links; scanners = c.feed-taken.new.self; queues = inside.queues }) new told watcher telling)
    ((held_at c.hear_all.new.scanners index).ended ≡ false → IsResting (held_at c.hear_all.new.scanners index))
    (Hears rules index c.args.bytes.now c.args.self.now new told watcher telling)
    (λ moves rests start run is holds.
    hears_run rules start run index c.feed-taken.result c.args.bytes.now old new c.feed-taken.new.self told watcher telling within c.hear_all.ensures.links c.self.invariant.0 c.requires.short c.feed-taken.ensures.feeds moves c.hear_all.ensures.others rests is
    (subst (λ (v : RelayKept). Holds rules run v) (sym c.self.view_is) holds))
    c.hear_all.ensures.moves
    c.hear_all.ensures.rests

pub returns-clause-stops : goal.returns-clause-stops
returns-clause-stops g c =
    let inside = c.self.inside in
    let rules = c.args.rules.now in
    let index = c.args.index in
    let told = g.W.Watcher.told in
    let watcher = c.args.watcher.now in
    let telling = c.hear_all.new.watcher in
    let old : RelayKept = record { links = inside.links; scanners = inside.scanners; queues = inside.queues } in
    let within = subst (λ (v : RelayKept). index < length v.links.links) (sym c.self.view_is) c.requires.within in
    map_err c.hear_all.result
    (Stops rules (record { links = inside.links; scanners = c.feed-taken.new.self; queues = inside.queues }) told watcher telling)
    (HearsInPart rules index c.args.bytes.now c.args.self.now told watcher telling)
    (λ stops start run is holds.
    hears_in_part rules start run index c.feed-taken.result c.args.bytes.now old c.feed-taken.new.self told watcher telling within c.self.invariant.0 c.requires.short c.feed-taken.ensures.feeds stops is
    (subst (λ (v : RelayKept). Holds rules run v) (sym c.self.view_is) holds))
    c.hear_all.ensures.stops
