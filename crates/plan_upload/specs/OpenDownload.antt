-- An open download without its items.
use Rattle.std.specs.Prelude.{List, Option, Some, None}
use Rattle.plan_items.specs.Kinds.{number_of}
use Rattle.plan_items.specs.declared.items.Item.{Item}
use Rattle.plan_upload.specs.Drone.{Download}
use Rattle.plan_upload.specs.declared.downloads.OpenDownload.{OpenDownload}

abbrev pub download_view : Option OpenDownload → List Item → Option Download
download_view None items = None
download_view (Some t) items = Some (record {
  stream = t.stream;
  kind = number_of t.kind;
  items = items;
  idle = t.idle;
})
