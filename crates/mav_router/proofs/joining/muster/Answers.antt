use Rattle.std.proofs.Common.{◌≡◌, ◌∙◌, ◌+◌, ◌++◌, List, ℕ, Some, map, length, slice_get, refl, ap, subst, arith, length-append}
use Rattle.mav_router.specs.declared.crew.PortJob.{PortJob}
use Rattle.mav_router.specs.Threads.{IsPlaced}
use Rattle.mav_router.proofs.Moving.{all_moved, source_moved}
use Rattle.mav_router.proofs.PortEnds.{each_pushed}
use Rattle.mav_router.proofs.joining.muster.Goals as goal

pub loop-at-preserved : goal.loop-at-preserved
loop-at-preserved g c =
    let l = c.loop-at in
    let i = l.invariant in
    let ports = c.take_first in
    let lanes = c.take_first-in-loop-at in
    let rooms = c.take_first-in-loop-at-2 in
    let seats = c.take_first-in-loop-at-3 in
    let put = c.put_last.ensures in
    let items = put.items in
    let fewer_ports = ap length ports.ensures.first in
    let fewer_lanes = ap length lanes.ensures.first in
    let fewer_rooms = ap length rooms.ensures.first in
    let fewer_seats = ap length seats.ensures.first in
    let more_jobs : length c.put_last.new.list.items ≡ length l.jobs.items + 1 = ap length items ∙ length-append l.jobs.items _ in
    record {
      long = omega (arith, fewer_ports, l.ports.ok.0, ports.new.list.ok.0, i.long);
      lanes_long = omega (arith, fewer_ports, l.ports.ok.0, ports.new.list.ok.0, fewer_lanes, l.stock.lanes.ok.0, lanes.new.list.ok.0, i.lanes_long);
      rooms_long = omega (arith, fewer_ports, l.ports.ok.0, ports.new.list.ok.0, fewer_rooms, l.stock.rooms.ok.0, rooms.new.list.ok.0, i.rooms_long);
      seats_long = omega (arith, fewer_ports, l.ports.ok.0, ports.new.list.ok.0, fewer_seats, l.seats.ok.0, seats.new.list.ok.0, i.seats_long);
      jobs_long = omega (arith, more_jobs, l.jobs.ok.0, c.put_last.new.list.ok.0, i.jobs_long);
      room = omega (arith, i.room, put.room);
      links = ap (λ (xs : List (PortJob g.row.L.Denot)). map (λ (job : PortJob g.row.L.Denot). job.part.side.link) xs ++ ports.new.list.items) items
          ∙ source_moved (λ (job : PortJob g.row.L.Denot). job.part.side.link) l.jobs.items _ l.ports.items ports.new.list.items c.args.ports.now.items ports.ensures.first i.links;
      lanes = ap (λ (xs : List (PortJob g.row.L.Denot)). map (λ (job : PortJob g.row.L.Denot). job.part.side.lane) xs ++ lanes.new.list.items) items
          ∙ source_moved (λ (job : PortJob g.row.L.Denot). job.part.side.lane) l.jobs.items _ l.stock.lanes.items lanes.new.list.items c.args.stock.now.lanes.items lanes.ensures.first i.lanes;
      seats = ap (λ (xs : List (PortJob g.row.L.Denot)). map (λ (job : PortJob g.row.L.Denot). job.part.seat) xs ++ seats.new.list.items) items
          ∙ source_moved (λ (job : PortJob g.row.L.Denot). job.part.seat) l.jobs.items _ l.seats.items seats.new.list.items c.args.seats.now.items seats.ensures.first i.seats;
      placed = λ k job is.
          each_pushed (λ (n : ℕ) (j : PortJob g.row.L.Denot). IsPlaced n j.part) l.jobs.items _ i.placed (record { port = omega (arith, i.jobs_long, l.jobs.ok.0); taken = refl }) k job
          (subst (λ (xs : List (PortJob g.row.L.Denot)). slice_get xs k ≡ Some job) items is);
      shared = λ k job is.
          each_pushed (λ (n : ℕ) (j : PortJob g.row.L.Denot). j.crew ≡ c.args.crew.now) l.jobs.items _ i.shared refl k job
          (subst (λ (xs : List (PortJob g.row.L.Denot)). slice_get xs k ≡ Some job) items is);
      sides = i.sides;
      ports_room = ports.ensures.room ∙ i.ports_room;
      seats_room = seats.ensures.room ∙ i.seats_room;
    }

pub returns-clause-links : goal.returns-clause-links
returns-clause-links g c =
    let l = c.loop-at in
    let i = l.invariant in
    all_moved (map (λ (job : PortJob g.row.L.Denot). job.part.side.link) l.jobs.items) l.ports.items _ (omega (arith, l.ports.ok.0, i.long, c.loop-at-test.false)) i.links

pub returns-clause-lanes : goal.returns-clause-lanes
returns-clause-lanes g c =
    let l = c.loop-at in
    let i = l.invariant in
    all_moved (map (λ (job : PortJob g.row.L.Denot). job.part.side.lane) l.jobs.items) l.stock.lanes.items _ (omega (arith, l.stock.lanes.ok.0, i.lanes_long, i.long, c.loop-at-test.false)) i.lanes

pub returns-clause-seats : goal.returns-clause-seats
returns-clause-seats g c =
    let l = c.loop-at in
    let i = l.invariant in
    all_moved (map (λ (job : PortJob g.row.L.Denot). job.part.seat) l.jobs.items) l.seats.items _ (omega (arith, l.seats.ok.0, i.seats_long, i.long, c.loop-at-test.false)) i.seats

pub returns-clause-placed : goal.returns-clause-placed
returns-clause-placed g c = c.loop-at.invariant.placed

pub returns-clause-shared : goal.returns-clause-shared
returns-clause-shared g c = c.loop-at.invariant.shared

pub returns-clause-sides : goal.returns-clause-sides
returns-clause-sides g c = c.loop-at.invariant.sides
