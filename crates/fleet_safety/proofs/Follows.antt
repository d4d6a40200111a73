-- What is shown of each action, one after another.
use Rattle.std.proofs.Common.{◌≡◌, ℕ, List, [], ◌∷◌, ◌++◌, slice_get, Some, refl, sym, ap, subst, ◌∙◌}
use Rattle.mav_nodes.specs.Nodes.{DroneSide}
use Rattle.std.proofs.lemmas.List.{append_assoc, append-nil}
use Rattle.plan_safety.specs.World as world
use Rattle.plan_safety.specs.World.{Nodes, World, happens}
use Rattle.plan_safety.specs.Frames.{Frame}
use Rattle.plan_safety.specs.Store.{StoreEvent}
use Rattle.plan_safety.specs.History.{Step, step, steps_of, final, history}
use Rattle.node_reports.specs.Nodes.{Drone}
use Rattle.fleet_world.specs.WorldState.{WorldState}
use Rattle.fleet_safety.specs.Reporting.{seen, reported}
use Rattle.fleet_safety.specs.Actions.{Action}
use Rattle.fleet_safety.specs.Safe.{events_of, report_of, orders_of, state_after}
use Rattle.fleet_safety.proofs.Reports.{final_on, reported_on, seen_on}
use Rattle.fleet_safety.proofs.Own.{Own}

-- an action from a world on
pub record Acts (n : Nodes) (w : World) (a : Action) : Type 0 where
  pub report : seen a.report ≡ reported n w a.events
  pub own : Own n w a.events a.orders
  pub drones : (index : ℕ) (d : DroneSide) → slice_get a.state.nodes index ≡ Some (Drone d) → ((final n w a.events).drone d.link.me).state ≡ d.core

abbrev pub Follows : Nodes → World → List Action → Type 0
Follows n w [] = Unit {0}
Follows n w (a ∷ actions) = Acts n w a × Follows n (final n w a.events) actions

-- one list of actions and then another
pub events_on : (actions bs : List Action) → events_of (actions ++ bs) ≡ events_of actions ++ events_of bs
events_on [] bs = refl
events_on (a ∷ actions) bs = ap (λ es. a.events ++ es) (events_on actions bs) ∙ sym (append_assoc a.events (events_of actions) (events_of bs))

pub report_on : (actions bs : List Action) → report_of (actions ++ bs) ≡ report_of actions ++ report_of bs
report_on [] bs = refl
report_on (a ∷ actions) bs = ap (λ es. a.report ++ es) (report_on actions bs) ∙ sym (append_assoc a.report (report_of actions) (report_of bs))

pub orders_on : (actions bs : List Action) → orders_of (actions ++ bs) ≡ orders_of actions ++ orders_of bs
orders_on [] bs = refl
orders_on (a ∷ actions) bs = ap (λ os. a.orders ++ os) (orders_on actions bs) ∙ sym (append_assoc a.orders (orders_of actions) (orders_of bs))

pub state_on : (s : WorldState) (actions bs : List Action) → state_after s (actions ++ bs) ≡ state_after (state_after s actions) bs
state_on s [] bs = refl
state_on s (a ∷ actions) bs = state_on a.state actions bs

pub final_after : (n : Nodes) (w : World) (actions bs : List Action) → final n w (events_of (actions ++ bs)) ≡ final n (final n w (events_of actions)) (events_of bs)
final_after n w actions bs = ap (final n w) (events_on actions bs) ∙ final_on n w (events_of actions) (events_of bs)

pub follows_on : (n : Nodes) (w : World) (actions bs : List Action) → Follows n w actions → Follows n (final n w (events_of actions)) bs → Follows n w (actions ++ bs)
follows_on n w [] bs f g = g
follows_on n w (a ∷ actions) bs f g =
    (f.0, follows_on n (final n w a.events) actions bs f.1 (subst (λ v. Follows n v bs) (final_on n w a.events (events_of actions)) g))

-- one action
pub one_events : (a : Action) → events_of (a ∷ []) ≡ a.events
one_events a = append-nil a.events

pub one_report : (a : Action) → report_of (a ∷ []) ≡ a.report
one_report a = append-nil a.report

-- each action of some
pub each_follows : (n : Nodes) (w : World) (before : List Action) (a : Action) (later : List Action) → Follows n w (before ++ a ∷ later) → Acts n (final n w (events_of before)) a
each_follows n w [] a later f = f.0
each_follows n w (b ∷ bs) a later f =
    subst (λ v. Acts n v a) (sym (final_on n w b.events (events_of bs))) (each_follows n (final n w b.events) bs a later f.1)

-- all that they report
pub all_reported : (n : Nodes) (w : World) (actions : List Action) → Follows n w actions → seen (report_of actions) ≡ reported n w (events_of actions)
all_reported n w [] f = refl
all_reported n w (a ∷ actions) f =
    seen_on a.report (report_of actions)
    ∙ ap (λ es. es ++ seen (report_of actions)) f.0.report
    ∙ ap (λ es. reported n w a.events ++ es) (all_reported n (final n w a.events) actions f.1)
    ∙ sym (reported_on n w a.events (events_of actions))

-- those before others
pub follows_before : (n : Nodes) (w : World) (before later : List Action) → Follows n w (before ++ later) → Follows n w before
follows_before n w [] later f = tt
follows_before n w (a ∷ actions) later f = (f.0, follows_before n (final n w a.events) actions later f.1)

-- ---- what the store goes through

pub history_on : (n : Nodes) (w : World) (h : List Step) (es fs : List world.Event) → history n w h (es ++ fs) ≡ history n (final n w es) (history n w h es) fs
history_on n w h [] fs = refl
history_on n w h (e ∷ es) fs = let v : World = happens n w e in history_on n v (steps_of v.sent v.news h) es fs

steps_back : (sent : List Frame) (es : List StoreEvent) (h : List Step) → steps_of sent es h ≡ steps_of sent es [] ++ h
steps_back sent [] h = refl
steps_back sent (e ∷ es) h =
    steps_back sent es (step sent e ∷ h)
    ∙ sym (append_assoc (steps_of sent es []) (step sent e ∷ []) h)
    ∙ ap (λ g. g ++ h) (sym (steps_back sent es (step sent e ∷ [])))

-- after earlier steps: they stay as they are
pub history_back : (n : Nodes) (w : World) (h : List Step) (es : List world.Event) → history n w h es ≡ history n w [] es ++ h
history_back n w h [] = refl
history_back n w h (e ∷ es) =
    let v : World = happens n w e in
    let now : List Step = steps_of v.sent v.news [] in
    history_back n v (steps_of v.sent v.news h) es
    ∙ ap (λ g. history n v [] es ++ g) (steps_back v.sent v.news h)
    ∙ sym (append_assoc (history n v [] es) now h)
    ∙ ap (λ g. g ++ h) (sym (history_back n v now es))
