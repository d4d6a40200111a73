-- An open upload without its items.
use Rattle.std.specs.Prelude.{◌≡◌, ◌<◌, ◌≤◌, List, length, All, Option, Some, None}
use Rattle.plan_items.specs.Kinds.{number_of, limit_of}
use Rattle.plan_items.specs.Validation.{item_fault}
use Rattle.plan_items.specs.declared.items.Item.{Item}
use Rattle.plan_upload.specs.Drone.{Upload}
use Rattle.plan_upload.specs.declared.uploads.OpenUpload.{OpenUpload}

abbrev pub upload_view : Option OpenUpload → List Item → Option Upload
upload_view None items = None
upload_view (Some u) items =
    Some (record { stream = u.stream; kind = number_of u.kind; total = u.total; items = items; idle = u.idle })

-- fewer items are gathered than were announced, no more were announced than the kind has room for, and none
-- of those gathered has a fault of its own
pub record IsFitting (u : OpenUpload) (items : List Item) : Type 0 where
  pub more : length items < u.total
  pub fits : u.total ≤ limit_of (number_of u.kind)
  pub sound : All (λ item. item_fault (number_of u.kind) item ≡ None) items

abbrev pub IsGathering : Option OpenUpload → List Item → Type 0
IsGathering None items = Unit {0}
IsGathering (Some u) items = IsFitting u items
