use Rattle.mav_router.proofs.TurnSteps.{goes_then}
use Rattle.mav_router.proofs.resting.join_rests.Goals as goal

pub loop-at-init : goal.loop-at-init
loop-at-init g c = λ switch lanes rules first run. run

pub loop-at-preserved : goal.loop-at-preserved
loop-at-preserved g c = λ switch lanes.
    goes_then g.L.Link.state switch switch switch c.args.links.now c.loop-at.links c.join_rest.new.links lanes lanes lanes (c.loop-at.invariant switch lanes) (c.join_rest.ensures.kept switch lanes)
