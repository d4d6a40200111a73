-- Which items and plans are valid.
use Rattle.std.specs.Prelude.{◌≡◌, ℕ, zero, suc, ◌-◌, ◌<◌, ◌≤◌, ◌==◌, nat_le, Bool, true, false, not, ◌&&◌, ◌||◌}
use Rattle.std.specs.Prelude.{if◌then◌else◌, ℤ, pos, neg_ℤ, int_le, List, [], ◌∷◌, length, take, slice_index, All}
use Rattle.std.specs.Prelude.{Option, Some, None, is_some, unwrap_or}
use Rattle.std.specs.Option.{option_or}
use Rattle.std.specs.List.{list_all}
use Rattle.plan_items.specs.Kinds.{limit_of}
use Rattle.plan_items.specs.Words.{word_number}
use Rattle.plan_items.specs.declared.items.Item.{Item}
use Rattle.plan_items.specs.declared.faults.PlanFault.{PlanFault}
use Rattle.plan_items.specs.declared.faults.PlanFault.TheVariants.{UnsupportedFrame, Unsupported, InvalidX, InvalidY}
use Rattle.plan_items.specs.declared.faults.PlanFault.TheVariants.{InvalidParam1, Invalid}

-- the frames of items that have a location: MAV_FRAME_GLOBAL, GLOBAL_RELATIVE_ALT, GLOBAL_INT,
-- GLOBAL_RELATIVE_ALT_INT
abbrev pub is_global : ℕ → Bool
is_global frame = (frame == 0) || (frame == 3) || (frame == 5) || (frame == 6)

-- the commands of missions that go to a location: NAV_WAYPOINT, NAV_LAND, NAV_TAKEOFF
abbrev pub goes_to_place : ℕ → Bool
goes_to_place command = (command == 16) || (command == 21) || (command == 22)

-- a global frame, or in a mission MAV_FRAME_MISSION for a command that goes to no location
abbrev pub is_frame_supported : ℕ → Item → Bool
is_frame_supported kind item =
    is_global item.frame || ((kind == 0) && (item.frame == 2) && not (goes_to_place item.command))

-- the vertices of fence polygons: NAV_FENCE_POLYGON_VERTEX_INCLUSION, NAV_FENCE_POLYGON_VERTEX_EXCLUSION
abbrev pub is_vertex : ℕ → Bool
is_vertex command = (command == 5001) || (command == 5002)

-- missions: also NAV_RETURN_TO_LAUNCH and IMAGE_START_CAPTURE; fences: NAV_FENCE_RETURN_POINT and vertices;
-- rally plans: NAV_RALLY_POINT
abbrev pub is_command_supported : ℕ → ℕ → Bool
is_command_supported kind command =
    if kind == 0 then goes_to_place command || (command == 20) || (command == 2000)
    else if kind == 1 then (command == 5000) || is_vertex command
    else (command == 5100)

-- at most `bound` either way from 0
abbrev pub is_within : ℕ → ℤ → Bool
is_within bound place = int_le (neg_ℤ (pos bound)) place && int_le place (pos bound)

-- a coordinate is within its bound, if the frame has a location
abbrev pub is_in_range : Item → ℕ → ℤ → Bool
is_in_range item bound place = (item.frame == 2) || is_within bound place

-- the word of param1
abbrev pub param1_of : Item → ℕ
param1_of item = slice_index item.p 0

-- the number, if it is 3 or more
abbrev pub from_three : Option ℕ → Option ℕ
from_three None = None
from_three (Some count) = if nat_le 3 count then Some count else None

-- the number of vertices of a polygon, from 3 to 70, that a word represents
abbrev pub vertex_count : ℕ → Option ℕ
vertex_count word = from_three (word_number word)

-- a vertex says in param1 how many its polygon has
abbrev pub has_count : Item → Bool
has_count item = not (is_vertex item.command) || is_some (vertex_count (param1_of item))

-- the first fault of an item in a plan of the kind with this number
unfoldable pub item_fault : ℕ → Item → Option PlanFault
item_fault kind item =
    -- UnsupportedFrame: a frame that the kind and the command don't have
    if not (is_frame_supported kind item) then Some UnsupportedFrame
    -- Unsupported: a command that the kind doesn't have
    else if not (is_command_supported kind item.command) then Some Unsupported
    -- InvalidX: a latitude beyond 90 degrees
    else if not (is_in_range item 900000000 item.x) then Some InvalidX
    -- InvalidY: a longitude beyond 180 degrees
    else if not (is_in_range item 1800000000 item.y) then Some InvalidY
    -- InvalidParam1: a vertex without a number of vertices
    else if not (has_count item) then Some InvalidParam1
    else None

-- how many items the group that begins with this one has: a vertex's whole polygon, and any other item alone
abbrev pub group_len_of : Item → Option ℕ
group_len_of first = if is_vertex first.command then vertex_count (param1_of first) else Some 1

-- an item has the command and the param1 of its group's first
abbrev pub is_like : Item → Item → Bool
is_like first item = (item.command == first.command) && (param1_of item == param1_of first)

-- the items start with a whole group of this length
abbrev pub begins_group : Item → Option ℕ → List Item → Bool
begins_group first None items = false
begins_group first (Some len) items = nat_le len (length items) && list_all (is_like first) (take len items)

-- the items are whole groups, one after the other, but for the first `inside`, which belong to an earlier group
abbrev pub is_grouped : ℕ → List Item → Bool
is_grouped inside [] = true
is_grouped zero (first ∷ rest) =
    begins_group first (group_len_of first) (first ∷ rest) && is_grouped (unwrap_or (group_len_of first) 1 - 1) rest
is_grouped (suc inside) (_ ∷ rest) = is_grouped inside rest

-- the fault of a whole plan whose items have none: a fence with a broken polygon
-- (MAVLink guide, Mission Protocol: Geofence)
unfoldable pub whole_fault : ℕ → List Item → Option PlanFault
whole_fault kind items = if (kind == 1) && not (is_grouped 0 items) then Some Invalid else None

-- the fault of the first item that has one
abbrev pub first_fault : ℕ → List Item → Option PlanFault
first_fault kind [] = None
first_fault kind (item ∷ rest) = option_or (item_fault kind item) (first_fault kind rest)

-- the fault of a plan: that of its first item that has one, and else that of the whole
unfoldable pub plan_fault : ℕ → List Item → Option PlanFault
plan_fault kind items = option_or (first_fault kind items) (whole_fault kind items)

-- the result code of a fault (MAVLink common messages, MAV_MISSION_RESULT)
abbrev pub code_of : PlanFault → ℕ
code_of UnsupportedFrame = 2
code_of Unsupported = 3
code_of InvalidX = 10
code_of InvalidY = 11
code_of InvalidParam1 = 6
code_of Invalid = 5

-- a plan that a drone installs: not empty, within its kind's limit, and without a fault
pub record IsValid (kind : ℕ) (items : List Item) : Type 0 where
  pub not_empty : 0 < length items
  pub within : length items ≤ limit_of kind
  pub items_sound : All (λ item. item_fault kind item ≡ None) items
  pub whole_sound : whole_fault kind items ≡ None
