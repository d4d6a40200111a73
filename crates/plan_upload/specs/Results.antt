-- The last upload results of a drone's streams, as it keeps them.
use Rattle.std.specs.Prelude.{List, map}
use Rattle.plan_upload.specs.Drone.{UploadResult}
use Rattle.plan_upload.specs.declared.results.StreamResult.{StreamResult}

abbrev pub result_view : StreamResult → UploadResult
result_view r = record { stream = r.stream; installed = r.installed }

abbrev pub results_view : List StreamResult → List UploadResult
results_view rs = map result_view rs
