use Rattle.std.proofs.Common.{◌≡◌, List, slice_get, Some, subst, sym}
use Rattle.mav_stream.specs.Held.{Held}
use Rattle.relay_core.specs.Scans.{FeedsAt}
use Rattle.relay_core.proofs.scanners.Scanners.feed.Goals as goal

pub returns-clause-feeds : goal.returns-clause-feeds
returns-clause-feeds c = λ held there.
    subst (λ (l : List Held). FeedsAt c.args.index held c.args.bytes.now c.feed_at.result l c.feed_at.new.list.items) c.self.view_is
    (c.feed_at.ensures.feeds held (subst (λ (l : List Held). slice_get l c.args.index ≡ Some held) (sym c.self.view_is) there))
