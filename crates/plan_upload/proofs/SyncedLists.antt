-- Whether a drone is among the synchronised ones.
use Rattle.std.proofs.Common.{◌≡◌, ◌||◌, List, [], ◌∷◌, refl, ap}
use Rattle.std.specs.List.{list_any}
use Rattle.mav_names.specs.declared.names.Stream.{Stream}
use Rattle.plan_upload.specs.Addresses.{same_stream}
use Rattle.plan_upload.specs.Station.{is_synced}

-- it is if one of them is the same stream
pub is_synced-any : (ds : List Stream) (s : Stream) → list_any (λ d. same_stream d s) ds ≡ is_synced ds s
is_synced-any [] s = refl
is_synced-any (d ∷ ds) s = ap (λ b. same_stream d s || b) (is_synced-any ds s)
