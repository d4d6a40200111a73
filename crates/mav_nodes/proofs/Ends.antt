-- Drones and stations as nodes over their cores.
use Rattle.std.proofs.Common.{◌≡◌, ℕ, Bool, true, false, List, [], ◌++◌, Option, Some, None, Result, Ok, Err, inl, inr, refl, sym, ap, ◌∙◌, subst, append_assoc}
use Rattle.std.proofs.lemmas.List.{map-append}
use Rattle.std.specs.Prelude.{All, OnOk, map}
use Rattle.mav_nodes.specs.declared.news.News.{News}
use Rattle.mav_nodes.specs.declared.orders.Order.{Order}
use Rattle.mav_nodes.specs.declared.orders.Order.TheVariants.{Begin, Cancel, Clear, Get, Command, ParamRead, ParamSet, ParamList, File}
use Rattle.plan_items.specs.declared.messages.PlanMsg.{PlanMsg}
use Rattle.plan_upload.specs.Station.{StationState, station_tick}
use Rattle.mav_nodes.specs.News.{NodeEvent, Shown, shown, events_of}
use Rattle.mav_nodes.specs.Services.{StationServices, station_waits}
use Rattle.mav_nodes.specs.declared.faults.NodeFault.{NodeFault}
use Rattle.mav_nodes.specs.declared.faults.NodeFault.TheVariants.{StampsSpent, Store, NoMemory}
use Rattle.mav_nodes.specs.Links.{Link, LinkView, IsLink, Outcome, after_events, and_then}
use Rattle.mav_nodes.specs.Stores.{AllKept}
use Rattle.mav_nodes.specs.Steps.{Side, steps, serves}
use Rattle.mav_nodes.specs.Cores.{says}
use Rattle.mav_nodes.specs.Nodes.{StationSide, StationView, IsStation, IsAccepted, station_does, station_ticks, services_tick, station_obeys, order_step, order_refusal, is_service, service_step}
use Rattle.mav_nodes.specs.Promises.{NodeDid, NodeDidKeeping, StationDid, Fails, SpentKeeping, FailsKeeping}

-- what a station does at an order of the mission protocol is its core's step
pub obeys : (clock : ℕ) (order : Order) (node : StationSide) → is_service order ≡ false → station_obeys clock order node ≡ steps clock node.link node.services (station_does (order_step node.core order))
obeys clock (Begin drone kind plan) node other = refl
obeys clock Cancel node other = refl
obeys clock (Clear drone kind) node other = refl
obeys clock (Get drone kind) node other = refl
obeys clock (Command drone number word) node other = absurd (cc)
obeys clock (ParamRead drone id) node other = absurd (cc)
obeys clock (ParamSet drone param) node other = absurd (cc)
obeys clock (ParamList drone) node other = absurd (cc)
obeys clock (File drone op) node other = absurd (cc)

-- and at one to its services theirs
pub asks : (clock : ℕ) (order : Order) (node : StationSide) → is_service order ≡ true → station_obeys clock order node ≡ serves clock node.link node.core (service_step node.services order)
asks clock (Begin drone kind plan) node own = absurd (cc)
asks clock Cancel node own = absurd (cc)
asks clock (Clear drone kind) node own = absurd (cc)
asks clock (Get drone kind) node own = absurd (cc)
asks clock (Command drone number word) node own = refl
asks clock (ParamRead drone id) node own = refl
asks clock (ParamSet drone param) node own = refl
asks clock (ParamList drone) node own = refl
asks clock (File drone op) node own = refl

-- no service refuses an order of the mission protocol
pub unasked : (order : Order) (station : StationView) → is_service order ≡ false → order_refusal station.station order ≡ None → IsAccepted station order
unasked (Begin drone kind plan) station other free = record { plan = free; command = refl; params = refl; file = refl }
unasked Cancel station other free = record { plan = free; command = refl; params = refl; file = refl }
unasked (Clear drone kind) station other free = record { plan = free; command = refl; params = refl; file = refl }
unasked (Get drone kind) station other free = record { plan = free; command = refl; params = refl; file = refl }
unasked (Command drone number word) station other free = absurd (cc)
unasked (ParamRead drone id) station other free = absurd (cc)
unasked (ParamSet drone param) station other free = absurd (cc)
unasked (ParamList drone) station other free = absurd (cc)
unasked (File drone op) station other free = absurd (cc)

-- ---- a store that never fails keeps all

pub sure_did : {Core Services : Type 0} (does : List Bool → Outcome (Side Core Services)) (total : Outcome (Side Core Services)) (failed : Type 0) (end : LinkView) (view : Core) (services : Services) (news : List News) → (failed → ⊥) → ((keeps : List Bool) → All (λ kept. kept ≡ true) keeps → does keeps ≡ total) → NodeDidKeeping does (AllKept failed) end view services news → NodeDid total end view services [] news
sure_did {Core} {Services} does total failed end view services news never same d = by_kept d.is_kept
  where
    by_kept : AllKept failed d.keeps → NodeDid total end view services [] news
    by_kept (inl all) = subst (λ (o : Outcome (Side Core Services)). NodeDid o end view services [] news) (same d.keeps all) d.did
    by_kept (inr h) = absurd (never h)

pub sure_fails : {A B C D : Type 0} (fault : NodeFault) (Is : A → Type 0) (does : List Bool → A → Outcome B) (failed : Type 0) (Now : C → Type 0) (total : C → Outcome D) → (failed → ⊥) → ((c : C) → Now c → (a : A) × Is a × ((keeps : List Bool) → All (λ kept. kept ≡ true) keeps → does keeps a ≡ None → total c ≡ None)) → FailsKeeping fault Is does (AllKept failed) failed → Fails fault Now total ⊥
sure_fails {A} {B} {C} {D} StampsSpent Is does failed Now total never same h = λ c is.
    let one = same c is in
    by_kept c one.0 one.2 (h one.0 one.1)
  where
    by_kept : (c : C) (a : A) → ((keeps : List Bool) → All (λ kept. kept ≡ true) keeps → does keeps a ≡ None → total c ≡ None) → SpentKeeping (AllKept failed) (λ keeps. does keeps a) → total c ≡ None
    by_kept c a f s = by_all s.is_kept
      where
        by_all : AllKept failed s.keeps → total c ≡ None
        by_all (inl all) = f s.keeps all s.none
        by_all (inr h) = absurd (never h)
sure_fails Store Is does failed Now total never same h = never h
sure_fails NoMemory Is does failed Now total never same h = tt

-- what fails in one view, fails in another
pub fails_so : {A B C D : Type 0} (fault : NodeFault) (Is : A → Type 0) (does : A → Outcome B) (F : Type 0) (Now : C → Type 0) (total : C → Outcome D) (G : Type 0) → (F → G) → ((c : C) → Now c → (a : A) × Is a × (does a ≡ None → total c ≡ None)) → Fails fault Is does F → Fails fault Now total G
fails_so StampsSpent Is does F Now total G f same h = λ c is.
    let one = same c is in
    one.2 (h one.0 one.1)
fails_so Store Is does F Now total G f same h = f h
fails_so NoMemory Is does F Now total G f same h = tt

pub fails_keeping_so : {I A B C D : Type 0} (fault : NodeFault) (Is : A → Type 0) (does : I → A → Outcome B) (kept : I → Type 0) (F : Type 0) (Now : C → Type 0) (total : I → C → Outcome D) → ((c : C) → Now c → (a : A) × Is a × ((i : I) → does i a ≡ None → total i c ≡ None)) → FailsKeeping fault Is does kept F → FailsKeeping fault Now total kept F
fails_keeping_so StampsSpent Is does kept F Now total same h = λ c is.
    let one = same c is in
    let s = h one.0 one.1 in
    record { keeps = s.keeps; is_kept = s.is_kept; none = one.2 s.keeps s.none }
fails_keeping_so Store Is does kept F Now total same h = h
fails_keeping_so NoMemory Is does kept F Now total same h = tt

pub order_fails : (clock : ℕ) (end : LinkView) (answer : Option PlanMsg) (F : Type 0) (Is : StationSide → Type 0) (total : StationSide → Outcome StationSide) (fault : NodeFault) → (F → ⊥)
    → ((node : StationSide) → Is node → (link : Link) × IsLink link end × (first : List NodeEvent) × (last : List NodeEvent) × (says clock first answer last link ≡ None → total node ≡ None))
    → ((first last : List NodeEvent) → Fails fault (λ (link : Link). IsLink link end) (λ (link : Link). says clock first answer last link) F) → Fails fault Is total ⊥
order_fails clock end answer F Is total StampsSpent never same h = λ node is.
    let one = same node is in
    one.4 (h one.2 one.3 one.0 one.1)
order_fails clock end answer F Is total Store never same h = never (h [] [])
order_fails clock end answer F Is total NoMemory never same h = tt

-- ---- parts of a station's calls

pub on_ok : {A E P Q : Type 0} (r : Result A E) → (P → Q) → OnOk r P → OnOk r Q
on_ok (Ok a) f h = f h
on_ok (Err e) f h = tt

-- a tick of the core, and then one of the services
module _ (clock : ℕ) where
  abbrev pub core_tick : StationSide → Outcome StationSide
  core_tick node = steps clock node.link node.services (station_does (station_tick node.core))

  behind_did : (first : List NodeEvent) (outcome : Outcome StationSide) (new : StationView) (one two : List News) → events_of one ≡ events_of [] ++ map shown first → StationDid outcome new one two → StationDid (after_events first outcome) new [] two
  behind_did first None new one two e h = h
  behind_did first (Some d) new one two e h =
      (h.0, h.1 ∙ (ap (λ (l : List Shown). l ++ map shown d.events) e ∙ (append_assoc (events_of []) (map shown first) (map shown d.events) ∙ ap (λ (l : List Shown). events_of [] ++ l) (sym (map-append shown first d.events)))))

  pub ticked : (node : StationSide) (mid new : StationView) (one two : List News) → StationDid (core_tick node) mid [] one
      → ((link : Link) → IsLink link mid.link → StationDid (serves clock link mid.station (station_waits mid.services)) new one two) → StationDid (station_ticks clock node) new [] two
  ticked node mid new one two did next = both (core_tick node) did
    where
      both : (first : Outcome StationSide) → StationDid first mid [] one → StationDid (and_then first (services_tick clock)) new [] two
      both None h = h
      both (Some d) h =
          behind_did d.events (services_tick clock d.node) new one two h.1
          (subst (λ (v : StationServices). StationDid (serves clock d.node.link d.node.core (station_waits v)) new one two) h.0.services
          (subst (λ (core : StationState). StationDid (serves clock d.node.link core (station_waits mid.services)) new one two) h.0.core (next d.node.link h.0.link)))

  pub tick_spent : (old mid : StationView) (one : List News) (fault : NodeFault) → ((node : StationSide) → IsStation node old → StationDid (core_tick node) mid [] one)
      → Fails fault (λ (link : Link). IsLink link mid.link) (λ (link : Link). serves clock link mid.station (station_waits mid.services)) ⊥ → Fails fault (λ (node : StationSide). IsStation node old) (λ (node : StationSide). station_ticks clock node) ⊥
  tick_spent old mid one StampsSpent did h = λ node is. spent (core_tick node) (did node is)
    where
      spent : (first : Outcome StationSide) → StationDid first mid [] one → and_then first (services_tick clock) ≡ None
      spent None e = refl
      spent (Some d) e =
          ap (after_events d.events)
          (subst (λ (v : StationServices). serves clock d.node.link d.node.core (station_waits v) ≡ None) e.0.services
          (subst (λ (core : StationState). serves clock d.node.link core (station_waits mid.services) ≡ None) e.0.core (h d.node.link e.0.link)))
  tick_spent old mid one Store did h = h
  tick_spent old mid one NoMemory did h = tt
