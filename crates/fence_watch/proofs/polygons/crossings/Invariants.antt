use Rattle.std.proofs.Common.{◌≡◌, ◌≤◌, ◌+◌, map, drop}
use Rattle.std.specs.Prelude.{count_by}
use Rattle.drone_sim.specs.Sim.{location_of}
use Rattle.fence_watch.specs.Fences.{edges_of, edges_from, crosses_ray}
use Rattle.fence_watch.proofs.polygons.crossings.Given as goal

-- what was counted and what is left are the whole
abbrev pub invariant-loop-corner : goal.invariant-loop-corner
invariant-loop-corner l = record {
  whole : l.count + count_by (crosses_ray l.at) (edges_from l.first l.from (map location_of (drop l.corner-index l.rest))) ≡ count_by (crosses_ray l.at) (edges_of (map location_of l.fn.corners));
  few : l.count ≤ l.corner-index;
}
