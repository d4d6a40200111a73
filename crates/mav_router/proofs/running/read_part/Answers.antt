use Rattle.std.proofs.Common.{take}
use Rattle.mav_router.specs.History.{entries_in}
use Rattle.mav_router.specs.Journal.{frames_to}
use Rattle.mav_router.proofs.Findings.{heard, unheard}
use Rattle.mav_router.proofs.PartSteps.{output_longer, output_relaned}
use Rattle.mav_router.proofs.PortSteps.{on_ok, on_err}
use Rattle.mav_router.proofs.running.read_part.Goals as goal

pub returns-clause-so_far : goal.returns-clause-so_far
returns-clause-so_far g c = on_ok c.admit_found.result (λ all first p.
    let part = c.args.part.now in
    let a = c.admit_found in
    let rules = c.args.crew.now.rules.now in
    let own = entries_in part.seat.own in
    let seen = entries_in part.seat.seen in
    let now = g.L.Link.state c.read_lane.new.link in
    let frames = frames_to part.port (take part.side.taken seen) in
    record {
      input = heard a.result rules part.port own (entries_in a.new.seat.own) _ first now c.read_lane.new.lane c.find.new.reader c.find.new.skipped _ (c.in-Some.ensures.some rules own part.port first p.input) c.in_default-find.ensures.finds c.find.ensures.ended a.ensures.takes all;
      output = output_longer part.port part.side.taken seen (entries_in a.new.seat.seen) first now _ c.requires.ready.taken a.ensures.begins
          (output_relaned frames first now c.read_lane.new.lane c.find.new.reader c.find.new.skipped (c.read_lane.ensures.output frames first p.output));
    }) c.admit_found.ensures.takes.all

pub returns-clause-stopped : goal.returns-clause-stopped
returns-clause-stopped g c = on_err c.admit_found.result (λ some first p.
    let part = c.args.part.now in
    let a = c.admit_found in
    let rules = c.args.crew.now.rules.now in
    let own = entries_in part.seat.own in
    let seen = entries_in part.seat.seen in
    let now = g.L.Link.state c.read_lane.new.link in
    let frames = frames_to part.port (take part.side.taken seen) in
    record {
      input = unheard a.result rules part.port own (entries_in a.new.seat.own) _ first now c.read_lane.new.lane c.find.new.reader c.find.new.skipped _ (c.in-Some.ensures.some rules own part.port first p.input) c.in_default-find.ensures.finds a.ensures.takes some;
      output = output_longer part.port part.side.taken seen (entries_in a.new.seat.seen) first now _ c.requires.ready.taken a.ensures.begins
          (output_relaned frames first now c.read_lane.new.lane c.find.new.reader c.find.new.skipped (c.read_lane.ensures.output frames first p.output));
    }) c.admit_found.ensures.takes.some

pub returns-in-Err-clause-stopped : goal.returns-in-Err-clause-stopped
returns-in-Err-clause-stopped g c = λ first p.
    let part = c.args.part.now in
    let own = entries_in part.seat.own in
    let now = g.L.Link.state c.read_lane.new.link in
    let frames = frames_to part.port (take part.side.taken (entries_in part.seat.seen)) in
    let u = c.in-Some.ensures.some c.args.crew.now.rules.now own part.port first p.input in
    record {
      input = u.stops own (c.in-Err.ensures.unkept c.args.crew.now.rules.now part.port u.bytes own u.reading);
      output = output_relaned frames first now c.read_lane.new.lane c.find.new.reader c.find.new.skipped (c.read_lane.ensures.output frames first p.output);
    }
