-- What events of the world report, one by one and one after another.
use Rattle.std.proofs.Common.{◌≡◌, ℕ, suc, ◌+◌, ◌<◌, ◌≤◌, ◌⊎◌, inl, inr, true, false, ◌==◌, nat_lt, List, [], ◌∷◌, ◌++◌, length, Option, Some, None, refl, sym, ap, subst, arith, ◌∙◌}
use Rattle.std.proofs.lemmas.List.{append_assoc}
use Rattle.mav_names.specs.declared.names.Stream.{Stream}
use Rattle.plan_items.specs.declared.items.Item.{Item}
use Rattle.plan_items.specs.Kinds.{number_of}
use Rattle.plan_upload.specs.Addresses.{node_of}
use Rattle.plan_upload.specs.Plans.{Plans, plan_at, every_kind}
use Rattle.plan_upload.specs.Changes.{change_by}
use Rattle.plan_upload.specs.Drone.{DroneState, DroneStep, PlanEvent, Quiet, Installs, Empties, Shows}
use Rattle.plan_upload.specs.Station.{Told}
use Rattle.plan_safety.specs.Frames.{Frame}
use Rattle.plan_safety.specs.Store.{StoreEvent, with_plan}
use Rattle.plan_safety.specs.World as world
use Rattle.plan_safety.specs.World.{Nodes, World, happens, drone_news, outcome_news}
use Rattle.plan_safety.specs.History.{Step, final, steps_of, history}
use Rattle.plan_safety.proofs.Keys.{by_test, number_same}
use Rattle.plan_safety.proofs.DroneShape.{Shape, EventOf, plans_after}
use Rattle.plan_safety.proofs.FleetMoves.{plus}
use Rattle.mav_names.specs.declared.names.Name.{Name}
use Rattle.mav_nodes.specs.News.{NodeEvent, Sends, Installs as NodeInstalls, Empties as NodeEmpties, Drops, Ends, Ends_command, Gives_param, Ends_params, Reaches, Captures, Ends_file}
use Rattle.mav_nodes.specs.Nodes.{change_events, told_events}
use Rattle.fleet_report.specs.Events as report
use Rattle.node_reports.specs.Reporting.{reported_by}
use Rattle.fleet_world.specs.Steps.{packets_in}
use Rattle.fleet_safety.specs.Reporting.{ProtocolEvent, Installed, event_seen, seen, changes_reported, ends_reported, frames_reported, frame_reported, reported, reported_in, step_reported, refused_reported}

-- one list of events and then another
pub final_on : (n : Nodes) (w : World) (es fs : List world.Event) → final n w (es ++ fs) ≡ final n (final n w es) fs
final_on n w [] fs = refl
final_on n w (e ∷ es) fs = final_on n (happens n w e) es fs

pub reported_on : (n : Nodes) (w : World) (es fs : List world.Event) → reported n w (es ++ fs) ≡ reported n w es ++ reported n (final n w es) fs
reported_on n w [] fs = refl
reported_on n w (e ∷ es) fs =
    ap (λ r. reported_in n w e ++ r) (reported_on n (happens n w e) es fs)
    ∙ sym (append_assoc (reported_in n w e) (reported n (happens n w e) es) (reported n (final n (happens n w e) es) fs))

-- frames that were there report nothing, and a new one is reported
pub frames_before : (before : ℕ) (fs : List Frame) → length fs ≤ before → frames_reported before fs ≡ []
frames_before before [] l = refl
frames_before before (f ∷ fs) l = let z : nat_lt before (length (f ∷ fs)) ≡ false = old before (length fs) l in rw z refl
  where
    old : (a b : ℕ) → suc b ≤ a → nat_lt a (suc b) ≡ false
    old a b l = grind arith

abbrev pub new_reported : ℕ → Option Frame → List ProtocolEvent
new_reported number None = []
new_reported number (Some f) = frame_reported number f.from f.message

pub frames_new : (fs : List Frame) (new : Option Frame) → frames_reported (length fs) (plus new fs) ≡ new_reported (length fs + 1) new
frames_new fs None = frames_before (length fs) fs (omega arith)
frames_new fs (Some f) =
    let z : nat_lt (length fs) (length (f ∷ fs)) ≡ true = more (length fs) in
    let y : length (f ∷ fs) ≡ length fs + 1 = one (length fs) in
    rw (z, frames_before (length fs) fs (omega arith), y) refl
  where
    more : (a : ℕ) → nat_lt a (suc a) ≡ true
    more a = grind arith

    one : (a : ℕ) → suc a ≡ a + 1
    one a = omega arith

-- ---- what is seen of events

pub seen_on : (es fs : List report.Event) → seen (es ++ fs) ≡ seen es ++ seen fs
seen_on [] fs = refl
seen_on (e ∷ es) fs = ap (λ r. event_seen e ++ r) (seen_on es fs) ∙ sym (append_assoc (event_seen e) (seen es) (seen fs))

-- of what happened in a node, after so many frames were sent
abbrev pub seen_by : Name → ℕ → List NodeEvent → List ProtocolEvent
seen_by name before es = seen (reported_by name before es)

pub packets_on : (es fs : List NodeEvent) → packets_in (es ++ fs) ≡ packets_in es ++ packets_in fs
packets_on [] fs = refl
packets_on (Sends packet message ∷ es) fs = ap (λ r. packet ∷ r) (packets_on es fs)
packets_on (NodeInstalls kind items by ∷ es) fs = packets_on es fs
packets_on (NodeEmpties kind ∷ es) fs = packets_on es fs
packets_on (Drops answer ∷ es) fs = packets_on es fs
packets_on (Ends told ∷ es) fs = packets_on es fs
packets_on (Ends_command result ∷ es) fs = packets_on es fs
packets_on (Gives_param param ∷ es) fs = packets_on es fs
packets_on (Ends_params values ∷ es) fs = packets_on es fs
packets_on (Reaches number ∷ es) fs = packets_on es fs
packets_on (Captures total ∷ es) fs = packets_on es fs
packets_on (Ends_file end ∷ es) fs = packets_on es fs

pub reported_by_on : (name : Name) (before : ℕ) (es fs : List NodeEvent) → reported_by name before (es ++ fs) ≡ reported_by name before es ++ reported_by name (before + length (packets_in es)) fs
reported_by_on name before [] fs = ap (λ k. reported_by name k fs) (none before)
  where
    none : (k : ℕ) → k ≡ k + 0
    none k = omega arith
reported_by_on name before (Sends packet message ∷ es) fs =
    ap (λ r. report.Sent (before + 1) packet message ∷ r) (reported_by_on name (before + 1) es fs ∙ ap (λ k. reported_by name (before + 1) es ++ reported_by name k fs) (one before (length (packets_in es))))
  where
    one : (k l : ℕ) → k + 1 + l ≡ k + suc l
    one k l = omega arith
reported_by_on name before (NodeInstalls kind items by ∷ es) fs = ap (λ r. report.Installed name (number_of kind) items (node_of by) ∷ r) (reported_by_on name before es fs)
reported_by_on name before (NodeEmpties kind ∷ es) fs = ap (λ r. report.Emptied name (number_of kind) ∷ r) (reported_by_on name before es fs)
reported_by_on name before (Drops answer ∷ es) fs = ap (λ r. report.Dropped name answer ∷ r) (reported_by_on name before es fs)
reported_by_on name before (Ends told ∷ es) fs = ap (λ r. report.Ended name told ∷ r) (reported_by_on name before es fs)
reported_by_on name before (Ends_command result ∷ es) fs = ap (λ r. report.Command_ended name result ∷ r) (reported_by_on name before es fs)
reported_by_on name before (Gives_param param ∷ es) fs = ap (λ r. report.Param_given name param ∷ r) (reported_by_on name before es fs)
reported_by_on name before (Ends_params values ∷ es) fs = ap (λ r. report.Params_ended name values ∷ r) (reported_by_on name before es fs)
reported_by_on name before (Reaches number ∷ es) fs = ap (λ r. report.Reached name number ∷ r) (reported_by_on name before es fs)
reported_by_on name before (Captures total ∷ es) fs = ap (λ r. report.Captured name total ∷ r) (reported_by_on name before es fs)
reported_by_on name before (Ends_file end ∷ es) fs = reported_by_on name before es fs

pub seen_by_on : (name : Name) (before : ℕ) (es fs : List NodeEvent) → seen_by name before (es ++ fs) ≡ seen_by name before es ++ seen_by name (before + length (packets_in es)) fs
seen_by_on name before es fs = ap seen (reported_by_on name before es fs) ∙ seen_on (reported_by name before es) (reported_by name (before + length (packets_in es)) fs)

-- ---- a chain of events

-- these events lead from one world to another, report this, and the store goes through this in them
pub record Chain (n : Nodes) (w v : World) (events : List world.Event) (ts : List ProtocolEvent) (past : List Step → List Step) : Type 0 where
  pub ends : final n w events ≡ v
  pub reports : reported n w events ≡ ts
  pub steps : (h : List Step) → history n w h events ≡ past h

pub chain_end : (n : Nodes) (w : World) → Chain n w w [] [] (λ h. h)
chain_end n w = record { ends = refl; reports = refl; steps = λ h. refl }

-- one event before them, which reports nothing of a refusal
pub chain_on : (n : Nodes) (w u v : World) (e : world.Event) (es : List world.Event) (ts : List ProtocolEvent) (past : List Step → List Step) → happens n w e ≡ u → refused_reported n w e ≡ [] → Chain n u v es ts past → Chain n w v (e ∷ es) (step_reported w u ++ ts) (λ h. past (steps_of u.sent u.news h))
chain_on n w u v e es ts past is none c = record {
  ends = ap (λ x. final n x es) is ∙ c.ends;
  reports = ap (λ r. (r ++ step_reported w (happens n w e)) ++ reported n (happens n w e) es) none ∙ ap (λ x. step_reported w x ++ reported n x es) is ∙ ap (λ r. step_reported w u ++ r) c.reports;
  steps = λ h. ap (λ (x : World). history n x (steps_of x.sent x.news h) es) is ∙ c.steps (steps_of u.sent u.news h);
}

-- an event that reports nothing and sends nothing
pub silent_step : (w u : World) → u.news ≡ [] → u.sent ≡ w.sent → step_reported w u ≡ []
silent_step w u news sent =
    ap (λ es. changes_reported es ++ frames_reported (length w.sent) u.sent ++ ends_reported es) news
    ∙ ap (λ fs. frames_reported (length w.sent) fs ++ []) sent
    ∙ ap (λ r. r ++ []) (frames_before (length w.sent) w.sent (omega arith))

-- the three kinds
kinds : (n : ℕ) → n < 3 → (n ≡ 0) ⊎ ((n ≡ 1) ⊎ (n ≡ 2))
kinds n h = grind arith

module _ (n : Nodes) (d : DroneState) (x t : Stream) where
  -- an event of a drone reports what its step changes
  abbrev IsReported : PlanEvent → Plans → Type 0
  IsReported e plans = (before : ℕ) → seen_by (node_of x) before (change_events t plans (change_by e)) ≡ changes_reported (drone_news x e)

  installed : (k : ℕ) (items : List Item) (plans : Plans) → k < 3 → plan_at plans k ≡ items → IsReported (Installs t k items) plans
  installed k items plans l h = elim (kinds k l) [
    | inl z ↦ subst (λ j. plan_at plans j ≡ items → IsReported (Installs t j items) plans) (sym z) (λ h before. ap (λ p. Installed (node_of x) 0 p (node_of t) ∷ []) h) h
    | inr y ↦ elim y [
      | inl z ↦ subst (λ j. plan_at plans j ≡ items → IsReported (Installs t j items) plans) (sym z) (λ h before. ap (λ p. Installed (node_of x) 1 p (node_of t) ∷ []) h) h
      | inr z ↦ subst (λ j. plan_at plans j ≡ items → IsReported (Installs t j items) plans) (sym z) (λ h before. ap (λ p. Installed (node_of x) 2 p (node_of t) ∷ []) h) h
    ]
  ]

  emptied : (k : ℕ) (plans : Plans) → (k < 3) ⊎ (k ≡ every_kind) → IsReported (Empties t k) plans
  emptied k plans (inr z) = subst (λ j. IsReported (Empties t j) plans) (sym z) (λ before. refl)
  emptied k plans (inl l) = elim (kinds k l) [
    | inl z ↦ subst (λ j. IsReported (Empties t j) plans) (sym z) (λ before. refl)
    | inr y ↦ elim y [ inl z ↦ subst (λ j. IsReported (Empties t j) plans) (sym z) (λ before. refl) | inr z ↦ subst (λ j. IsReported (Empties t j) plans) (sym z) (λ before. refl) ]
  ]

  by_event : (e : PlanEvent) (plans : Plans) → EventOf n d t e → ((k : ℕ) → k < 3 → plan_at plans k ≡ plans_after (plan_at d.plans) e k) → IsReported e plans
  by_event Quiet plans h p = λ before. refl
  by_event (Installs by k items) plans h p = subst (λ z. IsReported (Installs z k items) plans) (sym h.0) (installed k items plans h.2 (p k h.2 ∙ own k))
    where
      own : (k : ℕ) → with_plan (plan_at d.plans) k items k ≡ items
      own k = let z : (k == k) ≡ true = number_same k in rw z refl
  by_event (Empties by k) plans h p = subst (λ z. IsReported (Empties z k) plans) (sym h.0) (emptied k plans h.2)
  by_event (Shows to k items) plans h p = λ before. refl

  pub changes_are : (r : DroneStep) → Shape n d t r → IsReported r.event r.drone.plans
  changes_are r h = by_event r.event r.drone.plans h.event h.plans

-- a drone ends no operation
pub no_ends : (x : Stream) (e : PlanEvent) → ends_reported (drone_news x e) ≡ []
no_ends x Quiet = refl
no_ends x (Installs by k items) = refl
no_ends x (Empties by k) = by_test (λ (es : List StoreEvent). ends_reported es ≡ []) (k == every_kind) _ _ (λ _. refl) (λ _. refl)
no_ends x (Shows to k items) = refl

-- a station's outcome is reported, and changes no plan
pub ends_are : (s : Stream) (told : Option Told) (before : ℕ) → seen_by (node_of s) before (told_events told) ≡ ends_reported (outcome_news s told)
ends_are s None before = refl
ends_are s (Some told) before = refl

pub no_changes : (s : Stream) (told : Option Told) → changes_reported (outcome_news s told) ≡ []
no_changes s None = refl
no_changes s (Some told) = refl
