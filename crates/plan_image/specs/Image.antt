-- The stored image of a drone.
use Rattle.std.specs.Prelude.{◌≡◌, ◌<◌, ◌^◌, ℕ, List, [], ◌∷◌, ◌++◌, length, slice_index, flat_map, All, FitsSigned}
use Rattle.std.specs.Int.{w16, w32, w64, to_le_bytes, cast_unsigned}
use Rattle.plan_items.specs.declared.items.Item.{Item}
use Rattle.plan_image.specs.Plans.{Plans, AreHoldable}

-- a word of 32 bits, and the word of a signed number (two's complement), lowest byte first
abbrev pub word : ℕ → List ℕ
word n = to_le_bytes w32 n

-- an item in 33 bytes: frame, command, current, autocontinue, the four params, x, y, z
unfoldable pub item_bytes : Item → List ℕ
item_bytes item =
    (item.frame ∷ []) ++ to_le_bytes w16 item.command ++ (item.current ∷ item.autocontinue ∷ [])
    ++ word (slice_index item.p 0) ++ word (slice_index item.p 1) ++ word (slice_index item.p 2)
    ++ word (slice_index item.p 3)
    ++ word (cast_unsigned w32 item.x) ++ word (cast_unsigned w32 item.y) ++ word item.z

-- a plan: how many items it has, and its items
abbrev pub plan_bytes : List Item → List ℕ
plan_bytes items = to_le_bytes w16 (length items) ++ flat_map item_bytes items

-- the image: the system id, the persisted timestamp low bound, and the plans by the numbers of their kinds
unfoldable pub image : ℕ → ℕ → Plans → List ℕ
image sys low plans =
    (sys ∷ []) ++ to_le_bytes w64 low ++ plan_bytes plans.mission ++ plan_bytes plans.fence ++ plan_bytes plans.rally

-- an item whose numbers are in the ranges of its fields
pub record ItemInRange (item : Item) : Type 0 where
  pub frame : item.frame < 256
  pub command : item.command < 65536
  pub current : item.current < 256
  pub autocontinue : item.autocontinue < 256
  pub four : length item.p ≡ 4
  pub words : All (λ n. n < 2 ^ 32) item.p
  pub x : FitsSigned w32 item.x
  pub y : FitsSigned w32 item.y
  pub z : item.z < 2 ^ 32

abbrev pub InRange : List Item → Type 0
InRange items = All ItemInRange items

-- the bytes are the image of these: a low bound below 2^48, and plans that are empty or valid
pub record IsImageOf (sys low : ℕ) (plans : Plans) (bytes : List ℕ) : Type 0 where
  pub below : low < 2 ^ 48
  pub holdable : AreHoldable plans
  pub mission_in_range : InRange plans.mission
  pub fence_in_range : InRange plans.fence
  pub rally_in_range : InRange plans.rally
  pub encoded : bytes ≡ image sys low plans

-- the bytes are the image of some
pub record IsImage (sys : ℕ) (bytes : List ℕ) : Type 0 where
  pub low : ℕ
  pub plans : Plans
  pub is : IsImageOf sys low plans bytes

-- the length of the longest image
abbrev pub most_bytes : ℕ
most_bytes = 41265
