-- The open download as the drone keeps it, and what its calls return.
use Rattle.std.specs.Prelude.{ℕ, ◌==◌, ◌&&◌, slice_get, Option, Some, None, if◌then◌else◌}
use Rattle.mav_names.specs.declared.names.Stream.{Stream}
use Rattle.plan_items.specs.declared.items.Item.{Item}
use Rattle.plan_items.specs.declared.messages.PlanMsg.{PlanMsg}
use Rattle.plan_items.specs.declared.messages.PlanMsg.TheVariants.{Item as Give}
use Rattle.plan_upload.specs.Addresses.{same_stream, node_of}
use Rattle.plan_upload.specs.Drone.{Download, ack}

-- the item that a stream asks for, if its own download has it
abbrev pub item_in : Option Download → Stream → ℕ → ℕ → Option Item
item_in None s seq kind = None
item_in (Some t) s seq kind = if same_stream t.stream s && (t.kind == kind) then slice_get t.items seq else None

-- the download after it, and the reply: INVALID_SEQUENCE if there is no such item
abbrev pub download_after : Option Download → Option Item → Option Download
download_after None item = None
download_after (Some t) None = Some t
download_after (Some t) (Some item) = Some (record t { idle = 0 })

abbrev pub given_of : Stream → ℕ → ℕ → Option Item → PlanMsg
given_of s seq kind None = ack s 13 kind
given_of s seq kind (Some item) = Give (node_of s) seq kind item
