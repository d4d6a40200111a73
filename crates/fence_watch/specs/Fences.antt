-- Fences: polygons of vertices, and where they let a drone be (MAVLink guide, Mission Protocol: Geofence; MAVLink
-- common messages, MAV_CMD_NAV_FENCE_POLYGON_VERTEX_INCLUSION and _EXCLUSION). The guide leaves open what several
-- inclusion polygons are together, and where a border belongs: that one of them is enough, and that a border is inside
-- an inclusion and outside an exclusion, is this project's profile.
use Rattle.std.specs.Prelude.{◌≡◌, ◌⊎◌, ℕ, zero, suc, ◌-◌, ◌%◌, ◌==◌, pos, int_le, int_lt, Bool, true, false, not}
use Rattle.std.specs.Prelude.{◌&&◌, ◌||◌, if◌then◌else◌, List, [], ◌∷◌, ◌++◌, map, take, All, Any, count_by, unwrap_or}
use Rattle.std.specs.List.{list_any}
use Rattle.plan_items.specs.declared.items.Item.{Item}
use Rattle.plan_items.specs.Validation.{is_vertex, group_len_of}
use Rattle.drone_sim.specs.declared.points.Point.{Point}
use Rattle.drone_sim.specs.Sim.{location_of}
use Rattle.fence_watch.specs.declared.segments.Segment.{Segment}
use Rattle.fence_watch.specs.Segments.{Meet, side, meet}

pub record Polygon : Type 0 where
  pub is_inclusion : Bool
  pub corners : List Point

-- ---- the polygons of a plan

-- how many items the group has that begins with this one; a vertex without a count, which no valid fence has, stands
-- alone
abbrev pub group_size : Item → ℕ
group_size first = unwrap_or (group_len_of first) 1

-- the polygon that a group is, if it is one
abbrev pub polygon_in : Item → List Item → List Polygon
polygon_in first group =
    if is_vertex first.command
    then record { is_inclusion = first.command == 5001; corners = map location_of group } ∷ []
    else []

-- the polygons, first to last, behind the first `inside` items, which belong to an earlier group
abbrev pub polygons_behind : ℕ → List Item → List Polygon
polygons_behind inside [] = []
polygons_behind zero (first ∷ rest) =
    polygon_in first (take (group_size first) (first ∷ rest)) ++ polygons_behind (group_size first - 1) rest
polygons_behind (suc inside) (_ ∷ rest) = polygons_behind inside rest

abbrev pub polygons_of : List Item → List Polygon
polygons_of items = polygons_behind 0 items

-- ---- the border of a polygon

abbrev pub segment : Point → Point → Segment
segment a b = record { from = a; to = b }

-- the edges from a corner on: each corner with the next one, and the last with the first
abbrev pub edges_from : Point → Point → List Point → List Segment
edges_from first corner [] = segment corner first ∷ []
edges_from first corner (next ∷ more) = segment corner next ∷ edges_from first next more

abbrev pub edges_of : List Point → List Segment
edges_of [] = []
edges_of (first ∷ more) = edges_from first first more

-- a segment meets an edge
abbrev pub MeetsBorder : Segment → List Point → Type 0
MeetsBorder leg corners = Any (Meet leg) (edges_of corners)

abbrev pub IsOnBorder : Point → List Point → Type 0
IsOnBorder p corners = MeetsBorder (segment p p) corners

-- ---- inside a polygon: even and odd crossings (ray casting)

-- the x of p is from that of a up to that of b, which is no part of the edge
abbrev pub spans : Point → Point → Point → Bool
spans p a b = int_le a.x p.x && int_lt p.x b.x

-- the edge from a to b passes p at a greater y: p lies to its right
abbrev pub passes_over : Point → Point → Point → Bool
passes_over p a b = spans p a b && int_lt (side a b p) (pos 0)

-- the ray from p along greater y crosses the edge, whichever of its ends has the lesser x
abbrev pub crosses_ray : Point → Segment → Bool
crosses_ray p edge = passes_over p edge.from edge.to || passes_over p edge.to edge.from

pub record IsInside (p : Point) (corners : List Point) : Type 0 where
  pub off_border : ¬ IsOnBorder p corners
  pub odd : count_by (crosses_ray p) (edges_of corners) % 2 ≡ 1

-- ---- what a fence allows

-- there is no inclusion, or the point is inside one or on its border; and it is inside no exclusion
pub record Allowed (fence : List Polygon) (p : Point) : Type 0 where
  pub included : All (λ g. g.is_inclusion ≡ false) fence
      ⊎ Any (λ g. (g.is_inclusion ≡ true) × (IsInside p g.corners ⊎ IsOnBorder p g.corners)) fence
  pub not_excluded : All (λ g. g.is_inclusion ≡ false → ¬ IsInside p g.corners) fence

-- the way from a to b meets an edge of some polygon
abbrev pub Touched : List Polygon → Point → Point → Type 0
Touched fence a b = Any (λ g. MeetsBorder (segment a b) g.corners) fence

-- ---- the same as tests

abbrev pub meets_border : Segment → List Point → Bool
meets_border leg corners = list_any (meet leg) (edges_of corners)

abbrev pub is_on_border : Point → List Point → Bool
is_on_border p corners = meets_border (segment p p) corners

abbrev pub is_inside : Point → List Point → Bool
is_inside p corners = not (is_on_border p corners) && (count_by (crosses_ray p) (edges_of corners) % 2 == 1)

-- inside an inclusion or on its border
abbrev pub includes : Point → Polygon → Bool
includes p g = g.is_inclusion && (is_inside p g.corners || is_on_border p g.corners)

-- inside an exclusion
abbrev pub excludes : Point → Polygon → Bool
excludes p g = not g.is_inclusion && is_inside p g.corners

abbrev pub has_inclusion : List Polygon → Bool
has_inclusion fence = list_any (λ g. g.is_inclusion) fence

-- there is no inclusion, or one has the point
abbrev pub is_included : List Polygon → Point → Bool
is_included fence p = not (has_inclusion fence) || list_any (includes p) fence

abbrev pub allows : List Polygon → Point → Bool
allows fence p = is_included fence p && not (list_any (excludes p) fence)

abbrev pub is_touched : List Polygon → Point → Point → Bool
is_touched fence a b = list_any (λ g. meets_border (segment a b) g.corners) fence
