-- Whether a drone can keep a result of a stream.
use Rattle.std.specs.Prelude.{◌||◌, nat_lt, is_some, Bool, List, length}
use Rattle.mav_names.specs.declared.names.Stream.{Stream}
use Rattle.plan_upload.specs.Drone.{UploadResult, result_of, most_results}

-- the stream has a result, or there is room for one more
abbrev pub has_place : List UploadResult → Stream → Bool
has_place rs s = is_some (result_of rs s) || nat_lt (length rs) most_results
