-- A stranger who becomes a link.
use Rattle.std.specs.Prelude.{ℕ, List, [], Option, None}
use Rattle.std.specs.Option.{option_map}
use Rattle.mav_router.specs.Journal.{Rules}
use Rattle.relay_hub.specs.Hubs.{HubState, opens}
use Rattle.relay_core.specs.RelayRuns.{RelayKept}
use Rattle.relay_core.specs.Said.{Said}
use Rattle.relay_run.specs.declared.stops.Stop.{Stop}
use Rattle.relay_run.specs.Rounds.{Goes, GoesInPart}

-- a link more, which gave these bytes
abbrev pub joins : ℕ → List ℕ → HubState → HubState
joins port bytes s = record (opens (record { port = port; given = bytes; taken = [] }) s) { stranger = None }

abbrev pub TakesIn : {Watcher : Type 0} → Rules → ℕ → List ℕ → (Watcher → List Said → Type 0) → (was is : Watcher)
    → (old new : RelayKept) → Type 0
TakesIn rules port bytes told was is old new =
    (hub : Option HubState) → Goes rules told was is hub (option_map (joins port bytes) hub) old new

abbrev pub TakesInPart : {Watcher : Type 0} → Stop → Rules → ℕ → List ℕ → (Watcher → List Said → Type 0)
    → (was is : Watcher) → RelayKept → Type 0
TakesInPart stop rules port bytes told was is old =
    (hub : Option HubState) → GoesInPart stop rules told was is hub (option_map (joins port bytes) hub) old
