-- A drone that starts again from its store, and the world in which it does.
use Rattle.std.specs.Prelude.{OnOk, IfOk, IfErr}
use Rattle.std.proofs.Common.{◌≡◌, ℕ, ◌+◌, ◌<◌, max, Bool, true, cond, nat_lt, List, [], ◌∷◌, position, slice_get, Option, Some, None, Result, Ok, Err, Vec, Global, refl, sym, ap, ◌∙◌, subst, arith}
use Rattle.mav_names.specs.declared.names.Name.{Name}
use Rattle.plan_upload.specs.Addresses.{node_of}
use Rattle.plan_upload.specs.Plans.{Plans}
use Rattle.plan_upload.specs.Drone.{DroneState, fresh_drone}
use Rattle.plan_store.specs.MemStores.{MemStore}
use Rattle.mav_nodes.specs.declared.news.News.{News}
use Rattle.mav_nodes.specs.declared.faults.NodeFault.{NodeFault}
use Rattle.mav_nodes.specs.LowBounds.{stored_low}
use Rattle.mav_nodes.specs.Links.{Outcome}
use Rattle.mav_nodes.specs.Stores.{Holds}
use Rattle.mav_nodes.specs.Images.{IsStored, StoreHolds}
use Rattle.mav_nodes.specs.Starts.{StartedFrom}
use Rattle.drone_sim.specs.declared.points.Point.{Point}
use Rattle.mav_nodes.specs.Services.{DroneServices}
use Rattle.mav_nodes.specs.Restarts.{stored_drone, started_again, restarted_drone, drone_restarts}
use Rattle.mav_nodes.specs.Nodes.{DroneSide, DroneView, IsDrone, new_drone}
use Rattle.mav_nodes.specs.Promises.{Did, DroneDid}
use Rattle.fleet_report.specs.Events.{Event, Restarted}
use Rattle.fleet_report.specs.Reports.{ReportState, reported}
use Rattle.node_reports.specs.Nodes.{Node, Drone}
use Rattle.node_reports.specs.Calls.{as_drone}
use Rattle.node_reports.specs.Reporting.{reports}
use Rattle.node_reports.proofs.Reporting.{reports-none, reports-both, reports-one}
use Rattle.fleet_world.specs.declared.faults.Bound.TheVariants.{Restarts}
use Rattle.fleet_world.specs.declared.faults.WorldFault.{WorldFault}
use Rattle.fleet_world.specs.declared.faults.WorldFault.TheVariants.{Limit, Node as NodeFails, NoMemory}
use Rattle.mav_nodes.specs.declared.faults.NodeFault.TheVariants.{StampsSpent, Store as NodeStore, NoMemory as NoNodeMemory}
use Rattle.fleet_world.specs.StoredDrones.{StoredView, IsStoredDrone}
use Rattle.fleet_world.specs.WorldState.{WorldState, is_drone_named}
use Rattle.fleet_world.specs.WorldView.{IsFleet, WorldView, IsState}
use Rattle.fleet_world.specs.Steps.{Step, StepError, At_limit, rests, after_events, most_restarts, node_does, calls_at, restarts_at, restarts_found, starts_again, restart_line}
use Rattle.fleet_world.specs.NodeSteps.{node_restarts, restarts_as}
use Rattle.fleet_world.specs.Promises.{WorldOutcome, IsStepError}
use Rattle.fleet_world.proofs.KeptNames.{SideKeeps, sys_of}
use Rattle.fleet_world.proofs.Found.{FoundDrone, found_drone}

-- ---- a drone and its store

-- what a call of the drone leaves
stored_did : (o : Outcome DroneSide) (node : DroneSide) (view new : StoredView) (news : List News) → IsStoredDrone node view → SideKeeps sys_of node.link.me node.core.sys o
    → DroneDid o new.node [] news → StoreHolds (Some new.store.contents) new.node → new.store.fails ≡ [] → Did o (λ n. IsStoredDrone n new) [] news
stored_did None node view new news is keeps did holds infallible = absurd did
stored_did (Some d) node view new news is keeps did holds infallible =
    (record { drone = did.0; me = keeps.0 ∙ is.me ∙ ap (λ (sys : ℕ). record { sys = sys; comp = 1; link = 0 }) (sym keeps.1); holds = holds; infallible = infallible }, did.1)

-- as a call says it
pub stored_done : (r : Result (Vec News Global) NodeFault) (does : DroneSide → Outcome DroneSide) (before view new : StoredView) → before ≡ view → ((node : DroneSide) → SideKeeps sys_of node.link.me node.core.sys (does node))
    → IfOk r (λ news. (node : DroneSide) → IsDrone node before.node → before.store.fails ≡ [] → DroneDid (does node) new.node [] news.items)
    → OnOk r (StoreHolds (Some before.store.contents) before.node → StoreHolds (Some new.store.contents) new.node)
    → (before.store.fails ≡ [] → new.store.fails ≡ [])
    → IfOk r (λ news. (node : DroneSide) → IsStoredDrone node view → Did (does node) (λ n. IsStoredDrone n new) [] news.items)
stored_done (Err fault) does before view new same keeps did holds infallible = tt
stored_done (Ok news) does before view new same keeps did holds infallible = λ node seen.
    let is = subst (IsStoredDrone node) (sym same) seen in
    stored_did (does node) node before new news.items is (keeps node) (did node is.drone is.infallible) (holds is.holds) (infallible is.infallible)

at_least_none : (low : ℕ) → max 0 low ≡ low
at_least_none low = grind arith

holds_of : (new : DroneView) (low : Option ℕ) (drone : DroneState) (contents : Option (List ℕ)) → new.link.low ≡ low → new.drone ≡ drone → Holds contents (IsStored drone) low → StoreHolds contents new
holds_of new low drone contents is_low is_drone h =
    subst (λ (l : Option ℕ). Holds contents (IsStored new.drone) l) (sym is_low) (subst (λ (d : DroneState). Holds contents (IsStored d) low) (sym is_drone) h)

module _ (key : List ℕ) (home : Point) (view : StoredView) (new : DroneView) (store : MemStore) (same : ◌≡◌ {A = Option (List ℕ)} (Some store.contents) (Some view.store.contents)) (infallible : store.fails ≡ []) where
  by_low : (sys : ℕ) (plans : Plans) (drone : DroneState) (low : Option ℕ) → drone.sys ≡ sys → drone.plans ≡ plans → Holds (Some view.store.contents) (IsStored drone) low → StartedFrom key sys home view.store.contents new
      → IsStoredDrone (started_again key sys home low plans) (record { node = new; store = store })
  by_low sys plans drone None is_sys is_plans holds from =
      let is = from.anew holds in
      record {
        drone = is;
        me = refl;
        holds = subst (λ (o : Option (List ℕ)). StoreHolds o new) (sym same) (holds_of new None (new_drone key sys home).core (Some view.store.contents) is.link.low is.core holds);
        infallible = infallible;
      }
  by_low sys plans drone (Some low) is_sys is_plans holds from =
      let image : IsStored (fresh_drone sys plans) low view.store.contents = subst (λ (p : Plans). IsStored (fresh_drone sys p) low view.store.contents) is_plans (subst (λ (s : ℕ). IsStored (fresh_drone s drone.plans) low view.store.contents) is_sys holds) in
      let is = from.stored low plans image in
      record {
        drone = is;
        me = refl;
        holds = subst (λ (o : Option (List ℕ)). StoreHolds o new) (sym same)
            (holds_of new (Some low) (stored_drone key sys home low plans).core (Some view.store.contents) (is.link.low ∙ ap Some (at_least_none low)) is.core image);
        infallible = infallible;
      }

-- it starts with nothing stored
pub starts_new : (key : List ℕ) (sys : ℕ) (home : Point) (new : DroneView) (store : MemStore) → ◌≡◌ {A = Option (List ℕ)} (Some store.contents) (Some []) → store.fails ≡ [] → StartedFrom key sys home [] new → IsStoredDrone (new_drone key sys home) (record { node = new; store = store })
starts_new key sys home new store same infallible from =
    let is = from.anew refl in
    record {
      drone = is;
      me = refl;
      holds = subst (λ (o : Option (List ℕ)). StoreHolds o new) (sym same) (holds_of new None (new_drone key sys home).core (Some []) is.link.low is.core refl);
      infallible = infallible;
    }

-- it starts again as what is stored
pub starts_stored : (key : List ℕ) (view : StoredView) (new : DroneView) (store : MemStore) → ◌≡◌ {A = Option (List ℕ)} (Some store.contents) (Some view.store.contents) → store.fails ≡ [] → (node : DroneSide) → IsStoredDrone node view → StartedFrom key view.node.drone.sys view.node.services.sim.home view.store.contents new → IsStoredDrone (restarted_drone key node) (record { node = new; store = store })
starts_stored key view new store same infallible node is from =
    by_low key node.services.sim.home view new store same infallible node.core.sys node.core.plans node.core (stored_low node.link.history) refl refl
    (subst (λ (l : Option ℕ). Holds (Some view.store.contents) (IsStored node.core) l) is.drone.link.low (subst (λ (d : DroneState). Holds (Some view.store.contents) (IsStored d) view.node.link.low) is.drone.core is.holds))
    (subst (λ (v : DroneServices). StartedFrom key node.core.sys v.sim.home view.store.contents new) is.drone.services
    (subst (λ (d : DroneState). StartedFrom key d.sys view.node.services.sim.home view.store.contents new) is.drone.core from))

-- ---- the world

-- after events that were reported before
behind_outcome : (events : List Event) (r : Result Step StepError) (frames : Bool) (last : WorldView) (start now end : ReportState) → now ≡ reports start events → WorldOutcome r frames last now end → WorldOutcome (after_events events r) frames last start end
behind_outcome events (Err error) frames last start now end text did = absurd did
behind_outcome events (Ok t) frames last start now end text did =
    (did.0, did.1 ∙ ap (λ (r : ReportState). reports r t.events) text ∙ reports-both start events t.events)

behind_fails : (events : List Event) (r : Result Step StepError) (fault : WorldFault) → IsStepError r fault → IsStepError (after_events events r) fault
behind_fails events r (Limit bound) h = ap (after_events events) h
behind_fails events r (NodeFails StampsSpent) h = ap (after_events events) h
behind_fails events r (NodeFails NodeStore) h = h
behind_fails events r (NodeFails NoNodeMemory) h = tt
behind_fails events r NoMemory h = tt

-- a drone that starts again, after that was reported
module _ (w last : WorldView) (key : List ℕ) (k : ℕ) (name : Name) (start now end : ReportState) (is_key : key ≡ w.fleet.key) (text : now ≡ reported start (Restarted name)) where
  call_is : (state : WorldState) (node : DroneSide) → IsState state w.frames w → slice_get state.nodes k ≡ Some (Drone node)
      → calls_at state k (slice_get state.nodes k) (node_restarts key w.fleet.clock) ≡ node_does state k (node_of node.link.me) (as_drone (drone_restarts state.key state.clock node))
  call_is state node is there =
      let e : key ≡ state.key = is_key ∙ is.key in
      ap (λ (o : Option Node). calls_at state k o (node_restarts key w.fleet.clock)) there
      ∙ (λ i. node_does state k (node_of node.link.me) (as_drone (drone_restarts (e i) (is.clock i) node)))

  restart_did : (state : WorldState) (node : DroneSide) → IsState state w.frames w → slice_get state.nodes k ≡ Some (Drone node)
      → WorldOutcome (calls_at state k (slice_get state.nodes k) (node_restarts key w.fleet.clock)) w.frames last now end → WorldOutcome (restarts_as state k name node) w.frames last start end
  restart_did state node is there did =
      behind_outcome (Restarted name ∷ []) (node_does state k (node_of node.link.me) (as_drone (drone_restarts state.key state.clock node))) w.frames last start now end (text ∙ reports-one start (Restarted name))
      (subst (λ (r : Result Step StepError). WorldOutcome r w.frames last now end) (call_is state node is there) did)

  restart_failed : (state : WorldState) (node : DroneSide) → IsState state w.frames w → slice_get state.nodes k ≡ Some (Drone node) → (fault : WorldFault)
      → IsStepError (calls_at state k (slice_get state.nodes k) (node_restarts key w.fleet.clock)) fault → IsStepError (restarts_as state k name node) fault
  restart_failed state node is there fault h =
      behind_fails (Restarted name ∷ []) (node_does state k (node_of node.link.me) (as_drone (drone_restarts state.key state.clock node))) fault
      (subst (λ (r : Result Step StepError). IsStepError r fault) (call_is state node is there) h)

  -- as a call says it
  pub restart_at_done : {T E : Type 0} (r : Result T E)
      → OnOk r ((state : WorldState) → IsState state w.frames w → WorldOutcome (calls_at state k (slice_get state.nodes k) (node_restarts key w.fleet.clock)) w.frames last now end)
      → OnOk r ((state : WorldState) (node : DroneSide) → IsState state w.frames w → slice_get state.nodes k ≡ Some (Drone node) → WorldOutcome (restarts_as state k name node) w.frames last start end)
  restart_at_done (Err e) did = tt
  restart_at_done (Ok t) did = λ state node is there. restart_did state node is there (did state is)

  pub restart_at_error : {T : Type 0} (r : Result T WorldFault)
      → IfErr r (λ fault. (state : WorldState) → IsState state w.frames w → IsStepError (calls_at state k (slice_get state.nodes k) (node_restarts key w.fleet.clock)) fault)
      → IfErr r (λ fault. (state : WorldState) (node : DroneSide) → IsState state w.frames w → slice_get state.nodes k ≡ Some (Drone node) → IsStepError (restarts_as state k name node) fault)
  restart_at_error (Ok t) did = tt
  restart_at_error (Err fault) did = λ state node is there. restart_failed state node is there fault (did state is)

-- ---- a line

-- a world in which one drone more has started again
abbrev pub counted : WorldView → WorldView
counted w = record w { restarts = w.restarts + 1 }

-- what the line leads to
abbrev restarts_line : WorldState → Name → Result Step StepError
restarts_line state drone = cond (nat_lt state.restarts most_restarts) (starts_again (restart_line state) drone) (Err (At_limit Restarts))

module _ (state : WorldState) (w : WorldView) (drone : Name) (is : IsState state w.frames w) (few : w.restarts < 1000) where
  pub is_counted : IsState (restart_line state) w.frames (counted w)
  is_counted = record {
    key = is.key;
    fleet = is.fleet;
    clock = is.clock;
    sent = is.sent;
    given = is.given;
    draft = is.draft;
    restarts = ap (λ (n : ℕ). n + 1) is.restarts;
    frames_is = is.frames_is;
  }

  allowed : nat_lt state.restarts most_restarts ≡ true
  allowed = let e = is.restarts in below state.restarts (omega (arith, e, few))
    where
      below : (n : ℕ) → n < 1000 → nat_lt n 1000 ≡ true
      below n h = grind arith

  -- the drone of that name does it, and nothing is done if there is none
  pub restarts_is : (k : ℕ) → (f : FoundDrone drone state.nodes k) → position (is_drone_named drone) state.nodes ≡ Some k → restarts_as (restart_line state) k drone f.node ≡ restarts_line state drone
  restarts_is k f at =
      ap (λ (n : Name). restarts_as (restart_line state) k n f.node) (sym f.called)
      ∙ sym (ap (restarts_found (restart_line state)) at ∙ ap (restarts_at (restart_line state) k) f.there)
      ∙ ap (λ (b : Bool). cond b (starts_again (restart_line state) drone) (Err (At_limit Restarts))) (sym allowed)

  pub rests_is : position (is_drone_named drone) state.nodes ≡ None → rests (restart_line state) ≡ restarts_line state drone
  rests_is none =
      sym (ap (restarts_found (restart_line state)) none)
      ∙ ap (λ (b : Bool). cond b (starts_again (restart_line state) drone) (Err (At_limit Restarts))) (sym allowed)

-- as a call says it
module _ (inside w last : WorldView) (drone : Name) (same : inside ≡ w) (few : inside.restarts < 1000) where
  pub restart_done : {T E : Type 0} (r : Result T E) (k : ℕ) (start end : ReportState) → ((nodes : List Node) → IsFleet nodes inside.fleet → Some k ≡ position (is_drone_named drone) nodes)
      → OnOk r ((state : WorldState) (node : DroneSide) → IsState state inside.frames (counted inside) → slice_get state.nodes k ≡ Some (Drone node) → WorldOutcome (restarts_as state k drone node) inside.frames last start end)
      → OnOk r ((state : WorldState) → IsState state w.frames w → WorldOutcome (restarts_line state drone) w.frames last start end)
  restart_done (Err e) k start end index did = tt
  restart_done (Ok t) k start end index did =
      subst (λ (z : WorldView). (state : WorldState) → IsState state z.frames z → WorldOutcome (restarts_line state drone) z.frames last start end) same
      (λ state is.
      let at = sym (index state.nodes is.fleet) in
      let f = found_drone drone state.nodes k at in
      subst (λ (s : Result Step StepError). WorldOutcome s inside.frames last start end) (restarts_is state inside drone is few k f at)
      (did (restart_line state) f.node (is_counted state inside drone is few) f.there))

  pub restart_error : {T : Type 0} (r : Result T WorldFault) (k : ℕ) → ((nodes : List Node) → IsFleet nodes inside.fleet → Some k ≡ position (is_drone_named drone) nodes)
      → IfErr r (λ fault. (state : WorldState) (node : DroneSide) → IsState state inside.frames (counted inside) → slice_get state.nodes k ≡ Some (Drone node) → IsStepError (restarts_as state k drone node) fault)
      → IfErr r (λ fault. (state : WorldState) → IsState state w.frames w → IsStepError (restarts_line state drone) fault)
  restart_error (Ok t) k index did = tt
  restart_error (Err fault) k index did =
      subst (λ (z : WorldView). (state : WorldState) → IsState state z.frames z → IsStepError (restarts_line state drone) fault) same
      (λ state is.
      let at = sym (index state.nodes is.fleet) in
      let f = found_drone drone state.nodes k at in
      subst (λ (s : Result Step StepError). IsStepError s fault) (restarts_is state inside drone is few k f at)
      (did (restart_line state) f.node (is_counted state inside drone is few) f.there))

  pub restart_none : (start : ReportState) → ((nodes : List Node) → IsFleet nodes inside.fleet → None ≡ position (is_drone_named drone) nodes)
      → last ≡ counted inside → (state : WorldState) → IsState state w.frames w → WorldOutcome (restarts_line state drone) w.frames last start start
  restart_none start none e =
      subst (λ (z : WorldView). (state : WorldState) → IsState state z.frames z → WorldOutcome (restarts_line state drone) z.frames last start start) same
      (λ state is.
      subst (λ (s : Result Step StepError). WorldOutcome s inside.frames last start start) (rests_is state inside drone is few (sym (none state.nodes is.fleet)))
      (subst (IsState (restart_line state) inside.frames) (sym e) (is_counted state inside drone is few), sym (reports-none start)))
