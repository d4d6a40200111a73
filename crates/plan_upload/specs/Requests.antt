-- What an upload looks up at a message.
use Rattle.std.specs.Prelude.{ℕ, ◌==◌, ◌||◌, Bool, slice_get, Option}
use Rattle.plan_items.specs.Plans.{items_of}
use Rattle.plan_items.specs.declared.items.Item.{Item}
use Rattle.plan_upload.specs.declared.operations.UploadTask.{UploadTask}

-- the item with this number, if the plan has it
abbrev pub item_at : UploadTask → ℕ → Option Item
item_at upload seq = slice_get (items_of upload.plan) seq

-- UNSUPPORTED, NO_SPACE, INVALID, DENIED
abbrev pub is_count_refusal : ℕ → Bool
is_count_refusal code = (code == 3) || ((code == 4) || ((code == 5) || (code == 14)))
