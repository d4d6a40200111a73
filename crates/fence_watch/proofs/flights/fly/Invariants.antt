use Rattle.std.proofs.Common.{◌≡◌}
use Rattle.drone_sim.specs.Laws.{ticks}
use Rattle.plan_items.specs.Plans.{items_of}
use Rattle.fence_watch.specs.Judging.{started, flown}
use Rattle.fence_watch.proofs.flights.fly.Given as goal

-- the drone is where so many ticks take it, and the breaches are those until then
abbrev pub invariant-loop-tick : goal.invariant-loop-tick
invariant-loop-tick l = record {
  sim : l.sim ≡ ticks l.tick (started l.fn.home) (items_of l.mission) l.step;
  breaches : l.breaches.items ≡ flown l.watch (items_of l.mission) l.fn.home l.step l.tick;
}
