use Rattle.std.proofs.Common.{◌<◌, length, arith, get_or}
use Rattle.std.proofs.lemmas.Option.{slice_get-get_or}
use Rattle.mav_router.proofs.TurnSteps.{link_kept, goes_then}
use Rattle.mav_router.proofs.resting.wake_one.Goals as goal

pub loop-at-init : goal.loop-at-init
loop-at-init g c = λ switch lanes rules first run. run

pub loop-at-preserved : goal.loop-at-preserved
loop-at-preserved g c = λ switch lanes.
    let l = c.loop-at in
    let in_links : l.at < length l.links = omega (arith, l.auto.links, c.loop-at-test.true) in
    goes_then g.L.Link.state switch switch switch c.args.links.now l.links _ lanes lanes lanes (l.invariant switch lanes)
    (link_kept g.L.Link.state switch l.links lanes l.at c.wake_by.new.link (get_or l.links l.at c.index-links-at.result) (slice_get-get_or l.links l.at c.index-links-at.result in_links) c.wake_by.ensures.kept)
