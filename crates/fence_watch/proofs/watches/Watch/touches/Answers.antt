use Rattle.std.proofs.Common.{◌≡◌, rules}
use Rattle.fence_watch.specs.Fences.{is_touched}
use Rattle.fence_watch.proofs.Tests.{touched_at}
use Rattle.fence_watch.proofs.watches.Watch.touches.Goals as goal

pub returns-clause-exact : goal.returns-clause-exact
returns-clause-exact c =
    let value : c.any_polygon.result ≡ is_touched c.args.self.now c.args.a c.args.b = search rules in
    touched_at c.args.self.now c.args.a c.args.b c.any_polygon.result value
