use Rattle.std.proofs.Common.{◌≡◌, not, rules}
use Rattle.fence_watch.specs.Fences.{allows}
use Rattle.fence_watch.proofs.Tests.{allowed_at}
use Rattle.fence_watch.proofs.watches.Watch.allowed.Goals as goal

pub returns-then-includes-clause-exact : goal.returns-then-includes-clause-exact
returns-then-includes-clause-exact c =
    let value : not c.any_polygon.result ≡ allows c.args.self.now c.args.at = search rules in
    allowed_at c.args.self.now c.args.at (not c.any_polygon.result) value

pub returns-else-includes-clause-exact : goal.returns-else-includes-clause-exact
returns-else-includes-clause-exact c =
    let value : c.includes.result ≡ allows c.args.self.now c.args.at = search rules in
    allowed_at c.args.self.now c.args.at c.includes.result value
