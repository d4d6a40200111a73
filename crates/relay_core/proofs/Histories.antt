-- The events of a run are a history.
use Rattle.std.proofs.Common.{◌≡◌, ℕ, ◌+◌, List, [], ◌∷◌, ◌++◌, length, ap, subst}
use Rattle.mav_sign.specs.Kept.{Kept}
use Rattle.mav_router.specs.Journal.{Rules}
use Rattle.relay_rules.specs.Laws.{nothing_opened, numbers_in}
use Rattle.relay_rules.specs.Steps.{Event, Leads, opens}
use Rattle.relay_rules.proofs.RouteLaws.{never_twice}
use Rattle.relay_core.specs.Flows.{Course, GoesBy, nothing_yet}
use Rattle.relay_core.specs.RelayRuns.{IsRun, RelayRun}

leads : (rules : Rules) (events : List Event) (before after : Course) → GoesBy rules events before after → Leads rules events before.state after.state
leads rules [] before after g = ap (λ (c : Course). c.state) g
leads rules (event ∷ events) before after g = (g.0.state, g.1.step, leads rules events g.0 after g.2)

pub run_leads : (rules : Rules) (start : Kept) (run : RelayRun) → IsRun rules start run → Leads rules run.events (nothing_opened start) run.course.state
run_leads rules start run is = leads rules run.events (nothing_yet start) run.course is

pub once : (rules : Rules) (start : Kept) (run : RelayRun) (before after : List Event) (number port : ℕ) → IsRun rules start run → run.events ≡ before ++ opens number port ∷ after → number ≡ length (numbers_in before) + 1
once rules start run before after number port is e =
    never_twice rules start before after number port run.course.state (subst (λ (l : List Event). Leads rules l (nothing_opened start) run.course.state) e (run_leads rules start run is))
