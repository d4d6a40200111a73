use Rattle.std.proofs.Common.{◌≡◌, length}
use Rattle.std.specs.List.{list_any}
use Rattle.fence_watch.specs.Fences.{polygons_of}
use Rattle.fence_watch.specs.Judging.{passes}
use Rattle.fence_watch.proofs.groups.any_polygon.Given as goal

-- the polygons that are left decide
abbrev pub invariant-loop-first : goal.invariant-loop-first
invariant-loop-first l = list_any (passes l.test) (polygons_of l.rest) ≡ list_any (passes l.test) (polygons_of l.fn.items)

abbrev pub decreases-loop-first : goal.decreases-loop-first
decreases-loop-first l = length l.rest
