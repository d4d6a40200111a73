use Rattle.std.proofs.Common.{◌≡◌, Bool, true, false, arith}
use Rattle.mav_router.proofs.Outgoing.{failed_on}
use Rattle.mav_router.proofs.PortSteps.{frames_written}
use Rattle.mav_router.proofs.writing.write_run.Goals as goal

pub returns-then-lane-clause-output : goal.returns-then-lane-clause-output
returns-then-lane-clause-output g c = λ frames more first is o.
    failed_on frames more first (g.L.Link.state c.args.link.now) c.args.lane.now c.if-lane.true o

pub returns-then-count-size-clause-output : goal.returns-then-count-size-clause-output
returns-then-count-size-clause-output g c = λ frames more first is o.
    let w = c.write_prefix-count in
    frames_written frames more first (g.L.Link.state c.args.link.now) (g.L.Link.state w.new.link) c.args.lane.now _ w.result c.args.run.now is w.ensures.within w.ensures.sent c.if-lane.false
    (λ e. absurd (let wrong : ◌≡◌ {A = Bool} true false = e in cc)) (omega (arith, c.saturating_add-lane.ensures)) o

pub returns-else-count-size-clause-output : goal.returns-else-count-size-clause-output
returns-else-count-size-clause-output g c = λ frames more first is o.
    let w = c.write_prefix-count in
    frames_written frames more first (g.L.Link.state c.args.link.now) (g.L.Link.state w.new.link) c.args.lane.now _ w.result c.args.run.now is w.ensures.within w.ensures.sent c.if-lane.false
    (λ e. omega (arith, c.if-count-size.false)) (omega (arith, c.saturating_add-lane.ensures)) o
