use Rattle.std.proofs.Common.{get_or}
use Rattle.std.proofs.lemmas.Option.{slice_get-get_or}
use Rattle.mav_router.proofs.TurnSteps.{link_kept}
use Rattle.mav_router.proofs.resting.rest_unless.Goals as goal

pub returns-clause-kept : goal.returns-clause-kept
returns-clause-kept g c = λ switch lanes.
    let links = c.args.links.now in
    let at = c.args.at in
    link_kept g.L.Link.state switch links lanes at c.rest.new.self (get_or links at c.index-links-at.result) (slice_get-get_or links at c.index-links-at.result c.requires) c.rest.ensures.kept

pub returns-then-any-clause-kept : goal.returns-then-any-clause-kept
returns-then-any-clause-kept g c = λ switch lanes rules first run. run
