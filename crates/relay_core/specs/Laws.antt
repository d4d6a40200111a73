-- What follows from what a run of a relay is.
use Rattle.std.specs.Prelude.{ℕ, ◌≡◌, ◌+◌, List, ◌∷◌, ◌++◌, length}
use Rattle.mav_sign.specs.Kept.{Kept}
use Rattle.mav_router.specs.Journal.{Rules}
use Rattle.relay_rules.specs.Laws.{nothing_opened, numbers_in}
use Rattle.relay_rules.specs.Steps.{Event, opens, Leads}
use Rattle.relay_core.specs.RelayRuns.{IsRun, RelayRun}

-- its events are a history by the rules of links
abbrev pub IsHistory : Type 0
IsHistory =
    (rules : Rules) (start : Kept) (run : RelayRun) → IsRun rules start run
    → Leads rules run.events (nothing_opened start) run.course.state

-- no number is given to two of its links
abbrev pub NumbersOnce : Type 0
NumbersOnce =
    (rules : Rules) (start : Kept) (run : RelayRun) (before after : List Event) (number port : ℕ)
    → IsRun rules start run → run.events ≡ before ++ opens number port ∷ after
    → number ≡ length (numbers_in before) + 1
