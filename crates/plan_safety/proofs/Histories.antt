-- Each execution of the world is a history of the store.
use Rattle.std.proofs.Common.{◌≡◌, ℕ, ◌<◌, List, [], ◌∷◌, refl, sym, subst}
use Rattle.mav_names.specs.declared.names.Stream.{Stream}
use Rattle.plan_upload.specs.Plans.{plan_at}
use Rattle.plan_safety.specs.Frames.{Frame}
use Rattle.plan_safety.specs.Store.{StoreEvent, Meets, follows}
use Rattle.plan_safety.specs.World.{Nodes, Distinct, Start, World, Event, happens, first_world}
use Rattle.plan_safety.specs.Safety.{SamePlans, IsExecution}
use Rattle.plan_safety.specs.History.{Step, step, store_of, IsHistory, IsHeld, steps_of, final, history}
use Rattle.plan_safety.proofs.Induction as induction
use Rattle.plan_safety.proofs.Induction.{first_plans}
use Rattle.plan_safety.proofs.StoreLaws.{plans_law}

-- a list of events makes the store what it follows to
steps_follow : (sent : List Frame) (es : List StoreEvent) (h : List Step) → store_of (steps_of sent es h) ≡ follows (store_of h) es
steps_follow sent [] h = refl
steps_follow sent (e ∷ es) h = steps_follow sent es (step sent e ∷ h)

-- and is a history, if it met its needs
steps_meet : (sent : List Frame) (es : List StoreEvent) (h : List Step) → Meets sent (store_of h) es → IsHistory h → IsHistory (steps_of sent es h)
steps_meet sent [] h n v = v
steps_meet sent (e ∷ es) h n v = steps_meet sent es (step sent e ∷ h) n.1 (n.0, v)

record Whole (nodes : Nodes) (w : World) (h : List Step) (es : List Event) : Type 0 where
  valid : IsHistory (history nodes w h es)
  plans : SamePlans (final nodes w es) (store_of (history nodes w h es))

-- an execution from a history on
whole : (nodes : Nodes) (es : List Event) (w : World) (h : List Step) → IsHistory h → SamePlans w (store_of h) → IsExecution nodes w (store_of h) es → Whole nodes w h es
whole nodes [] w h v p r = record { valid = v; plans = p }
whole nodes (e ∷ es) w h v p r =
    let x = happens nodes w e in
    let next = steps_of x.sent x.news h in
    let is = sym (steps_follow x.sent x.news h) in
    let i = whole nodes es x next (steps_meet x.sent x.news h r.0 v) (subst (SamePlans x) is r.1) (subst (λ m. IsExecution nodes x m es) is r.2) in
    record { valid = i.valid; plans = i.plans }

-- one from the start on
executed : (nodes : Nodes) → Distinct nodes → (start : Start) (es : List Event) → Whole nodes (first_world start) [] es
executed nodes sound start es = whole nodes es (first_world start) [] tt (first_plans start) (induction.always nodes sound start es)

-- each execution of the world is a history of the store
pub histories : (nodes : Nodes) → Distinct nodes → (start : Start) (es : List Event) → IsHistory (history nodes (first_world start) [] es)
histories nodes sound start es = (executed nodes sound start es).valid

-- and has its plans in the end
pub same_plans : (nodes : Nodes) → Distinct nodes → (start : Start) (es : List Event) → SamePlans (final nodes (first_world start) es) (store_of (history nodes (first_world start) [] es))
same_plans nodes sound start es = (executed nodes sound start es).plans

-- each drone's plan is empty, or exactly that of one installed upload
pub held : (nodes : Nodes) → Distinct nodes → (start : Start) (es : List Event) (d : Stream) (kind : ℕ) → kind < 3 → IsHeld (history nodes (first_world start) [] es) d kind (plan_at ((final nodes (first_world start) es).drone d).state.plans kind)
held nodes sound start es d kind l =
    let i = executed nodes sound start es in
    subst (IsHeld (history nodes (first_world start) [] es) d kind) (sym (i.plans d kind l)) (plans_law (history nodes (first_world start) [] es) i.valid d kind)
