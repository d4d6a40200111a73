use Rattle.std.proofs.Common.{◌≡◌, ◌≤◌, ◌+◌, ◌++◌, map, vec_len, vec_capacity}
use Rattle.mav_router.specs.declared.crew.PortJob.{PortJob}
use Rattle.mav_router.proofs.joining.dismiss.Given as goal

abbrev pub invariant-loop-at : goal.invariant-loop-at
invariant-loop-at g l = record {
  long : vec_len l.left + l.at ≡ l.at-end;
  sides_long : vec_len l.sides ≡ l.at;
  seats_long : vec_len l.seats ≡ l.at;
  sides_room : l.at-end ≤ vec_capacity l.sides;
  seats_room : l.at-end ≤ vec_capacity l.seats;
  sides : l.sides.items ++ map (λ (job : PortJob g.row.L.Denot). job.part.side) l.left.items ≡ map (λ (job : PortJob g.row.L.Denot). job.part.side) l.initial.left.items;
  seats : l.seats.items ++ map (λ (job : PortJob g.row.L.Denot). job.part.seat) l.left.items ≡ map (λ (job : PortJob g.row.L.Denot). job.part.seat) l.initial.left.items;
}
