use Rattle.std.proofs.Common.{arith}
use Rattle.mav_router.proofs.Journals.{element}
use Rattle.mav_router.proofs.PortEnds.{each_at_end, run_at_start, route_stopped, route_halted}
use Rattle.mav_router.proofs.routing.route_lanes.Goals as goal

pub returns-clause-ended : goal.returns-clause-ended
returns-clause-ended g c = λ rules fresh.
    let d = (element c.args.links.now 0 c.requires.some).0 in
    let start = run_at_start g.L.Link.state rules c.args.switch.now c.args.links.now c.args.lanes.now d c.requires.journal c.requires.given fresh in
    record {
      count = omega (arith, c.in-Ok.ensures.length, c.run_rounds.auto.lanes, c.requires.lanes);
      each = λ k b last e is_b is_last is_e.
          each_at_end g.L.Link.state rules c.run_rounds.new.switch c.args.links.now c.run_rounds.new.links c.run_rounds.new.lanes c.in-Ok.ends.items c.args.turns k b last d e c.requires.turns c.journal-entries.ensures.within is_b is_last is_e c.in-Ok.ensures.length
          (c.in_default.ensures.so_far rules _ start) c.in_default.ensures.drained c.in-Ok.ensures.each c.in_default.ensures.turned;
      stopped = tt;
    }

pub returns-in-Err-clause-ended : goal.returns-in-Err-clause-ended
returns-in-Err-clause-ended g c = λ rules fresh.
    let d = (element c.args.links.now 0 c.requires.some).0 in
    let start = run_at_start g.L.Link.state rules c.args.switch.now c.args.links.now c.args.lanes.now d c.requires.journal c.requires.given fresh in
    record {
      count = tt;
      each = tt;
      stopped = route_stopped g.L.Link.state rules c.args.turns c.in-Err.fault c.run_rounds.new.switch.journal c.args.links.now c.run_rounds.new.links d c.in-Err.ensures.fault c.run_rounds.auto.links (c.in-Err.ensures.stopped rules _ start);
    }

pub returns-in_default-ends_of-clause-ended : goal.returns-in_default-ends_of-clause-ended
returns-in_default-ends_of-clause-ended g c = λ rules fresh.
    let d = (element c.args.links.now 0 c.requires.some).0 in
    let start = run_at_start g.L.Link.state rules c.args.switch.now c.args.links.now c.args.lanes.now d c.requires.journal c.requires.given fresh in
    record {
      count = tt;
      each = tt;
      stopped = route_halted g.L.Link.state rules c.args.turns c.run_rounds.new.switch c.args.links.now c.run_rounds.new.links c.run_rounds.new.lanes d (omega (arith, c.run_rounds.auto.links, c.run_rounds.auto.lanes, c.requires.lanes)) (omega (arith, c.requires.turns)) (λ k lane is. (c.in_default.ensures.turned k lane is).most) (c.in_default.ensures.so_far rules _ start);
    }
