use Rattle.std.proofs.Common.{List}
use Rattle.mav_router.specs.declared.lane.Lane.{Lane}
use Rattle.mav_router.specs.Journal.{SwitchState}
use Rattle.mav_router.specs.Runs.{RunGoesOn}
use Rattle.mav_router.proofs.resting.wake_one.Given as goal

abbrev pub invariant-loop-at : goal.invariant-loop-at
invariant-loop-at g l =
    (switch : SwitchState) (lanes : List Lane) → RunGoesOn g.L.Link.state switch switch l.initial.links l.links lanes lanes
