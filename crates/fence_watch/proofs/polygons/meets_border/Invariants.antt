use Rattle.std.proofs.Common.{◌≡◌, map, drop}
use Rattle.std.specs.List.{list_any}
use Rattle.drone_sim.specs.Sim.{location_of}
use Rattle.fence_watch.specs.Segments.{meet}
use Rattle.fence_watch.specs.Fences.{edges_from, meets_border}
use Rattle.fence_watch.proofs.polygons.meets_border.Given as goal

-- the edges that are left decide
abbrev pub invariant-loop-corner : goal.invariant-loop-corner
invariant-loop-corner l = list_any (meet l.leg) (edges_from l.first l.from (map location_of (drop l.corner-index l.rest))) ≡ meets_border l.leg (map location_of l.fn.corners)
