use Rattle.std.proofs.Common.{◌≡◌, ◌∙◌, ◌+◌, ◌++◌, map, length, ap, arith, length-append}
use Rattle.mav_router.specs.declared.crew.PortJob.{PortJob}
use Rattle.mav_router.proofs.Moving.{image_moved, all_images_moved}
use Rattle.mav_router.proofs.joining.dismiss.Goals as goal

pub loop-at-preserved : goal.loop-at-preserved
loop-at-preserved g c =
    let l = c.loop-at in
    let i = l.invariant in
    let taken = c.take_first-part in
    let sides = c.put_last in
    let seats = c.put_last-in-loop-at in
    let fewer = ap length taken.ensures.first in
    let more_sides : length sides.new.list.items ≡ length l.sides.items + 1 = ap length sides.ensures.items ∙ length-append l.sides.items _ in
    let more_seats : length seats.new.list.items ≡ length l.seats.items + 1 = ap length seats.ensures.items ∙ length-append l.seats.items _ in
    record {
      long = omega (arith, fewer, l.left.ok.0, taken.new.list.ok.0, i.long);
      sides_long = omega (arith, more_sides, l.sides.ok.0, sides.new.list.ok.0, i.sides_long);
      seats_long = omega (arith, more_seats, l.seats.ok.0, seats.new.list.ok.0, i.seats_long);
      sides_room = omega (arith, i.sides_room, sides.ensures.room);
      seats_room = omega (arith, i.seats_room, seats.ensures.room);
      sides = ap (λ xs. xs ++ map (λ (job : PortJob g.row.L.Denot). job.part.side) taken.new.list.items) sides.ensures.items
          ∙ image_moved (λ (job : PortJob g.row.L.Denot). job.part.side) l.sides.items taken.result l.left.items taken.new.list.items _ taken.ensures.first i.sides;
      seats = ap (λ xs. xs ++ map (λ (job : PortJob g.row.L.Denot). job.part.seat) taken.new.list.items) seats.ensures.items
          ∙ image_moved (λ (job : PortJob g.row.L.Denot). job.part.seat) l.seats.items taken.result l.left.items taken.new.list.items _ taken.ensures.first i.seats;
    }

pub returns-clause-sides : goal.returns-clause-sides
returns-clause-sides g c =
    let l = c.loop-at in
    all_images_moved (λ (job : PortJob g.row.L.Denot). job.part.side) l.sides.items l.left.items _ (omega (arith, l.left.ok.0, l.invariant.long, c.loop-at-test.false)) l.invariant.sides

pub returns-clause-seats : goal.returns-clause-seats
returns-clause-seats g c =
    let l = c.loop-at in
    all_images_moved (λ (job : PortJob g.row.L.Denot). job.part.seat) l.seats.items l.left.items _ (omega (arith, l.left.ok.0, l.invariant.long, c.loop-at-test.false)) l.invariant.seats
