use Rattle.std.proofs.Common.{◌≡◌, map, drop}
use Rattle.std.specs.Prelude.{int_le}
use Rattle.std.specs.List.{list_any}
use Rattle.drone_sim.specs.declared.points.Point.{Point}
use Rattle.drone_sim.specs.Sim.{location_of}
use Rattle.fence_watch.proofs.polygons.has_corner_down_to.Given as goal

-- the corners that are left decide
abbrev pub invariant-loop-corner : goal.invariant-loop-corner
invariant-loop-corner l = list_any (λ (corner : Point). int_le corner.x l.x) (map location_of (drop l.corner-index l.corners)) ≡ list_any (λ (corner : Point). int_le corner.x l.x) (map location_of l.fn.corners)
