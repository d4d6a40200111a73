use Rattle.std.proofs.Common.{◌≡◌, ℕ, List, length}
use Rattle.mav_router.specs.Runs.{AllFresh}
use Rattle.mav_router.proofs.routing.new_lanes.Given as goal

abbrev pub invariant-loop-at : goal.invariant-loop-at
invariant-loop-at l = record {
  length : length l.lanes.items ≡ l.at;
  fresh : (key : List ℕ) (ports : ℕ) → AllFresh (record { key = key; known = l.known; ports = ports; plain = l.plain }) l.lanes.items;
}
