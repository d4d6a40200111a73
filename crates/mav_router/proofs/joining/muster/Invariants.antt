use Rattle.std.proofs.Common.{◌≡◌, ◌≤◌, ◌+◌, ◌++◌, ℕ, Some, map, slice_get, vec_len, vec_capacity}
use Rattle.mav_router.specs.declared.crew.PortJob.{PortJob}
use Rattle.mav_router.specs.Threads.{IsPlaced}
use Rattle.mav_router.proofs.joining.muster.Given as goal

abbrev pub invariant-loop-at : goal.invariant-loop-at
invariant-loop-at g l = record {
  long : vec_len l.ports + l.at ≡ l.at-end;
  lanes_long : vec_len l.stock.lanes ≡ vec_len l.ports;
  rooms_long : vec_len l.stock.rooms ≡ vec_len l.ports;
  seats_long : vec_len l.seats ≡ vec_len l.ports;
  jobs_long : vec_len l.jobs ≡ l.at;
  room : l.at-end ≤ vec_capacity l.jobs;
  links : map (λ (job : PortJob g.row.L.Denot). job.part.side.link) l.jobs.items ++ l.ports.items ≡ l.initial.ports.items;
  lanes : map (λ (job : PortJob g.row.L.Denot). job.part.side.lane) l.jobs.items ++ l.stock.lanes.items ≡ l.initial.stock.lanes.items;
  seats : map (λ (job : PortJob g.row.L.Denot). job.part.seat) l.jobs.items ++ l.seats.items ≡ l.initial.seats.items;
  placed : (k : ℕ) (job : PortJob g.row.L.Denot) → slice_get l.jobs.items k ≡ Some job → IsPlaced k job.part;
  shared : (k : ℕ) (job : PortJob g.row.L.Denot) → slice_get l.jobs.items k ≡ Some job → job.crew ≡ l.crew;
  sides : l.stock.sides ≡ l.initial.stock.sides;
  ports_room : vec_capacity l.ports ≡ vec_capacity l.initial.ports;
  seats_room : vec_capacity l.seats ≡ vec_capacity l.initial.seats;
}
