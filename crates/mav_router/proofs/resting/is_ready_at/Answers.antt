use Rattle.std.proofs.Common.{get_or}
use Rattle.std.proofs.lemmas.Option.{slice_get-get_or}
use Rattle.mav_router.proofs.TurnSteps.{link_kept}
use Rattle.mav_router.proofs.resting.is_ready_at.Goals as goal

pub returns-clause-kept : goal.returns-clause-kept
returns-clause-kept g c = λ switch lanes.
    let links = c.args.links.now in
    let at = c.args.at in
    link_kept g.L.Link.state switch links lanes at c.is_ready.new.self (get_or links at c.index-links-at.result) (slice_get-get_or links at c.index-links-at.result c.requires) c.is_ready.ensures.kept
