-- The whole run of a station.
use Rattle.std.proofs.Common.{◌≡◌, ◌⊎◌, inl, inr, ℕ, ◌≤◌, List, [], ◌∷◌, ◌++◌, Bool, true, false, Option, Some, None, Result, Ok, Err, refl, sym, ap, ◌∙◌, subst, arith}
use Rattle.std.specs.Prelude.{length, nat_lt, IfErr}
use Rattle.std.specs.Result.{result_err}
use Rattle.mav_ports.proofs.Known.{append_known_nil}
use Rattle.mav_links.specs.Links.{LinkState}
use Rattle.mav_names.specs.declared.names.Stream.{Stream}
use Rattle.plan_store.specs.MemStores.{MemStore, store_from_start}
use Rattle.mav_nodes.specs.declared.orders.Order.{Order}
use Rattle.mav_nodes.specs.News.{NodeEvent}
use Rattle.mav_nodes.specs.Links.{Link, Outcome, done, and_then}
use Rattle.mav_nodes.specs.Steps.{with_core}
use Rattle.mav_nodes.specs.Nodes.{StationSide, StationView, IsStation, new_station}
use Rattle.mav_nodes.specs.Stores.{Serves}
use Rattle.mav_nodes.specs.Streams.{HasRead}
use Rattle.node_reports.specs.Nodes.{Node, Drone, Station}
use Rattle.node_reports.specs.Calls.{as_drone, as_station}
use Rattle.run_status.specs.declared.input_errors.InputError.TheVariants.{StampsSpent}
use Rattle.run_status.specs.declared.live_ends.LiveEnd.TheVariants.{RefusedWith, NoAnswer, StoreFault, PortTurns, PortFault}
use Rattle.run_status.specs.declared.run_ends.RunEnd.{RunEnd}
use Rattle.run_status.specs.declared.run_ends.RunEnd.TheVariants.{Usage, Stopped, ReadFault, WriteFault, NoMemory, TurnsSpent, Live}
use Rattle.live_node.specs.declared.nodes.LiveNode.{LiveNode}
use Rattle.live_node.specs.declared.nodes.LiveNode.TheVariants.{Station as LiveStation}
use Rattle.live_node.specs.declared.stations.StationPlan.{StationPlan}
use Rattle.live_node.specs.declared.run_log.Ending.{Ending}
use Rattle.live_node.specs.declared.run_log.Ending.TheVariants.{Done, Refused, Unanswered}
use Rattle.live_node.specs.declared.run_log.RunLog.{RunLog}
use Rattle.live_node.specs.Calls.{LiveCall, Beats, Obeys, calls_do, IsTime}
use Rattle.live_node.specs.Turns.{Turn, Rest}
use Rattle.live_node.specs.Texts.{ending_over}
use Rattle.live_node.specs.Ports.{SameRead, IsRunEnd}
use Rattle.live_node.specs.Runs.{Outside, outside, Stores, MayRest, IsWhole}
use Rattle.live_node.specs.Drones.{mem_stores}
use Rattle.live_node.specs.Orders.{node_refuses, refused_end}
use Rattle.live_node.specs.Progress.{Output, Between, CallStopped, Opened}
use Rattle.live_node.specs.Stations.{verdict, judged, Awaited, HasEnded, StationEnds, IsOrderEnd, IsWaitedEnd, IsStationEnd, StationLived, StationRan, Gives, stream_asked}
use Rattle.live_node.specs.Waiting.{OrderStopped, WatchDone, WatchStopped, Outlasted, OutlastStopped, WaitedFor}
use Rattle.live_node.proofs.Results.{because}
use Rattle.live_node.proofs.Openings.{cut_off}
use Rattle.live_node.proofs.Runs.{run_over, still_self, stopped_in_opening}
use Rattle.live_node.proofs.Waits.{more_to_come, made_before}

-- ---- the end of a wait

may_rest : (allowed : Type 0) (rests : List Rest) → allowed → MayRest allowed rests
may_rest allowed [] h = tt
may_rest allowed (r ∷ rests) h = h

-- a wait of which no call is left
wait_over : {S : Type 0} (stores : Stores S) (before now : S) (plan : StationPlan) (start : Node) (opening : List LiveCall) (ended : Result (List ℕ) RunEnd) (turns : List Turn) (rests : List Rest) (live : LiveNode) (t : RunLog) (first last : Outside) → (result_err ended ≡ Some (Stopped StampsSpent) → ⊥) → (result_err ended ≡ Some (Live StoreFault) → ⊥) → IsWhole (result_err ended) [] → StationEnds plan ended turns (verdict plan.ticks t.ticks t.ending) → length turns ≤ plan.turns → MayRest (HasEnded last.link) rests → Awaited plan.ticks start opening turns rests → Between stores before now start opening turns rests live t first last → WaitedFor stores before now plan start opening ended first last
wait_over stores before now plan start opening ended turns rests live t first last stamps store whole ends within rested awaited b =
    let o = b.output in
    record {
      turns = turns;
      within = within;
      rests = rests;
      rested = rested;
      at = run_over stores before now start (result_err ended) opening turns rests live t first last last stamps store (still_self last) b;
      whole = whole;
      ends =
          subst (λ (n : ℕ). StationEnds plan ended turns (verdict plan.ticks n (ending_over None o.events))) o.ticks
          (subst (λ (e : Option Ending). StationEnds plan ended turns (verdict plan.ticks t.ticks e)) o.ending ends);
      awaited = awaited;
    }

-- by the verdict
waited : {S : Type 0} (stores : Stores S) (before now : S) (plan : StationPlan) (start : Node) (opening : List LiveCall) (turns : List Turn) (rests : List Rest) (live : LiveNode) (t : RunLog) (first last : Outside) → (verdict plan.ticks t.ticks t.ending ≡ None → length turns ≡ plan.turns) → length turns ≤ plan.turns → MayRest (HasEnded last.link) rests → Awaited plan.ticks start opening turns rests → Between stores before now start opening turns rests live t first last → WaitedFor stores before now plan start opening (judged plan (verdict plan.ticks t.ticks t.ending)) first last
waited stores before now plan start opening turns rests live t first last number within rested awaited b = by_ending t.ending refl
  where
    over : (ended : Result (List ℕ) RunEnd) → (result_err ended ≡ Some (Stopped StampsSpent) → ⊥) → (result_err ended ≡ Some (Live StoreFault) → ⊥) → IsWhole (result_err ended) [] → StationEnds plan ended turns (verdict plan.ticks t.ticks t.ending) → WaitedFor stores before now plan start opening ended first last
    over ended stamps store whole ends = wait_over stores before now plan start opening ended turns rests live t first last stamps store whole ends within rested awaited b

    Goal : Option (Result (List ℕ) RunEnd) → Type 0
    Goal said = WaitedFor stores before now plan start opening (judged plan said) first last

    turned : verdict plan.ticks t.ticks t.ending ≡ None → Goal None
    turned e = over (Err (Live (PortTurns plan.turns))) (λ f. cc) (λ f. cc) refl (e, refl, number e)

    none : (bytes : List ℕ) → verdict plan.ticks t.ticks t.ending ≡ Some (Ok bytes) → Goal (Some (Ok bytes))
    none bytes e = over (Ok bytes) (λ f. cc) (λ f. cc) refl e

    refused : (code : ℕ) → verdict plan.ticks t.ticks t.ending ≡ Some (Err (Live (RefusedWith code))) → Goal (Some (Err (Live (RefusedWith code))))
    refused code e = over (Err (Live (RefusedWith code))) (λ f. cc) (λ f. cc) refl e

    unanswered : (n : ℕ) → verdict plan.ticks t.ticks t.ending ≡ Some (Err (Live (NoAnswer n))) → Goal (Some (Err (Live (NoAnswer n))))
    unanswered n e = over (Err (Live (NoAnswer n))) (λ f. cc) (λ f. cc) refl e

    said : (ending : Option Ending) → t.ending ≡ ending → verdict plan.ticks t.ticks t.ending ≡ verdict plan.ticks t.ticks ending
    said ending e = ap (λ (x : Option Ending). verdict plan.ticks t.ticks x) e

    to : (one : Option (Result (List ℕ) RunEnd)) → verdict plan.ticks t.ticks t.ending ≡ one → Goal one → Goal (verdict plan.ticks t.ticks t.ending)
    to one e h = subst Goal (sym e) h

    by_test : t.ending ≡ None → (few : Bool) → nat_lt t.ticks plan.ticks ≡ few → Goal (verdict plan.ticks t.ticks t.ending)
    by_test e true f = let v : verdict plan.ticks t.ticks t.ending ≡ None = said None e ∙ rw f refl in to None v (turned v)
    by_test e false f = let v : verdict plan.ticks t.ticks t.ending ≡ Some (Err (Live (NoAnswer plan.ticks))) = said None e ∙ rw f refl in to (Some (Err (Live (NoAnswer plan.ticks)))) v (unanswered plan.ticks v)

    by_ending : (ending : Option Ending) → t.ending ≡ ending → Goal (verdict plan.ticks t.ticks t.ending)
    by_ending (Some (Done bytes)) e = to (Some (Ok bytes)) (said (Some (Done bytes)) e) (none bytes (said (Some (Done bytes)) e))
    by_ending (Some (Refused code)) e = to (Some (Err (Live (RefusedWith code)))) (said (Some (Refused code)) e) (refused code (said (Some (Refused code)) e))
    by_ending (Some Unanswered) e = to (Some (Err (Live (NoAnswer 5)))) (said (Some Unanswered) e) (unanswered 5 (said (Some Unanswered) e))
    by_ending None e = by_test e (nat_lt t.ticks plan.ticks) refl

-- the port hadn't ended
pub waited_turns : {S : Type 0} {stores : Stores S} {before now : S} {plan : StationPlan} {start : Node} {opening : List LiveCall} {live : LiveNode} {t : RunLog} {first last : Outside} → WatchDone stores before now plan start opening live t first last → WaitedFor stores before now plan start opening (judged plan (verdict plan.ticks t.ticks t.ending)) first last
waited_turns {S} {stores} {before} {now} {plan} {start} {opening} {live} {t} {first} {last} w = waited stores before now plan start opening w.turns [] live t first last w.number w.within tt w.awaited w.between

-- it had
pub waited_rests : {S : Type 0} {stores : Stores S} {before now : S} {plan : StationPlan} {start : Node} {opening : List LiveCall} {turns : List Turn} {live : LiveNode} {t : RunLog} {first last : Outside} → length turns ≤ plan.turns → Outlasted stores before now plan.ticks start opening turns live t first last → WaitedFor stores before now plan start opening (judged plan (verdict plan.ticks t.ticks t.ending)) first last
waited_rests {S} {stores} {before} {now} {plan} {start} {opening} {turns} {live} {t} {first} {last} within w =
    waited stores before now plan start opening turns w.rests live t first last (λ e. absurd (w.over e)) within (may_rest (HasEnded last.link) w.rests (w.ended.ended, w.ended.spent)) w.awaited w.ended.between

station_cut_off : (plan : StationPlan) (end : RunEnd) (turns : List Turn) (said : Option (Result (List ℕ) RunEnd)) → IsRunEnd end → StationEnds plan (Err end) turns said
station_cut_off plan Usage turns said h = absurd h
station_cut_off plan (Stopped error) turns said h = tt
station_cut_off plan ReadFault turns said h = absurd h
station_cut_off plan WriteFault turns said h = tt
station_cut_off plan NoMemory turns said h = tt
station_cut_off plan TurnsSpent turns said h = absurd h
station_cut_off plan (Live (RefusedWith code)) turns said h = absurd h
station_cut_off plan (Live (NoAnswer ticks)) turns said h = absurd h
station_cut_off plan (Live StoreFault) turns said h = tt
station_cut_off plan (Live (PortTurns most)) turns said h = absurd h
station_cut_off plan (Live PortFault) turns said h = tt

-- the run stopped in the wait
pub watch_cut : {S : Type 0} {stores : Stores S} {before now : S} {end : RunEnd} {plan : StationPlan} {start : Node} {opening : List LiveCall} {first last : Outside} → IsRunEnd end → WatchStopped stores before now end plan start opening first last → WaitedFor stores before now plan start opening (Err end) first last
watch_cut {S} {stores} {before} {now} {end} {plan} {start} {opening} {first} {last} is w = record {
  turns = w.turns;
  within = w.within;
  rests = [];
  rested = tt;
  at = w.stopped;
  whole = cut_off end w.stopped.rest is;
  ends = station_cut_off plan end w.turns _ is;
  awaited = w.awaited;
}

pub outlast_cut : {S : Type 0} {stores : Stores S} {before now : S} {end : RunEnd} {plan : StationPlan} {start : Node} {opening : List LiveCall} {turns : List Turn} {first last : Outside} → IsRunEnd end → length turns ≤ plan.turns → OutlastStopped stores before now end plan.ticks start opening turns first last → WaitedFor stores before now plan start opening (Err end) first last
outlast_cut {S} {stores} {before} {now} {end} {plan} {start} {opening} {turns} {first} {last} is within w = record {
  turns = turns;
  within = within;
  rests = w.rests;
  rested = may_rest (HasEnded last.link) w.rests w.ended;
  at = w.stopped;
  whole = cut_off end w.stopped.rest is;
  ends = station_cut_off plan end turns _ is;
  awaited = w.awaited;
}

-- ---- ends

waited_not_refused : (end : Option RunEnd) → (end ≡ None) ⊎ ((why : RunEnd) × (end ≡ Some why) × IsWaitedEnd why) → end ≡ Some refused_end → ⊥
waited_not_refused end (inl e) f = cc
waited_not_refused end (inr (why, e, h)) f = subst IsWaitedEnd (because (sym e ∙ f)) h

either_end : (r : Result (List ℕ) RunEnd) → IfErr r IsWaitedEnd → (result_err r ≡ None) ⊎ ((why : RunEnd) × (result_err r ≡ Some why) × IsWaitedEnd why)
either_end (Ok bytes) h = inl refl
either_end (Err end) h = inr (end, refl, h)

-- ---- a heartbeat changes no refusal

abbrev refuses_in : Order → Outcome Node → Bool
refuses_in order None = false
refuses_in order (Some d) = node_refuses d.node order

drone_beat : (order : Order) (o : Outcome _) (after : Node) (events : List NodeEvent) → and_then (as_drone o) (λ node. done node []) ≡ done after events → node_refuses after order ≡ false
drone_beat order None after events e = cc
drone_beat order (Some d) after events e = sym (ap (refuses_in order) e)

station_beat : (order : Order) (n : StationSide) (o : Outcome Link) (after : Node) (events : List NodeEvent) → and_then (as_station (with_core n.core n.services [] o)) (λ node. done node []) ≡ done after events → node_refuses after order ≡ node_refuses (Station n) order
station_beat order n None after events e = cc
station_beat order n (Some d) after events e = sym (ap (refuses_in order) e)

beat_keeps : (order : Order) (beat : ℕ) (start after : Node) (events : List NodeEvent) → calls_do (Beats beat ∷ []) start ≡ done after events → node_refuses after order ≡ node_refuses start order
beat_keeps order beat (Drone n) after events e = drone_beat order _ after events e
beat_keeps order beat (Station n) after events e = station_beat order n _ after events e

-- ---- the whole run

run_not_refused : (end : RunEnd) → IsRunEnd end → ◌≡◌ {A = Option RunEnd} (Some end) (Some refused_end) → ⊥
run_not_refused end is e = subst IsRunEnd (because e) is

one_call : (more rest : List LiveCall) (call : LiveCall) → more ++ rest ≡ call ∷ [] → 2 ≤ length more → ⊥
one_call [] rest call e h = omega (arith, h)
one_call (x ∷ []) rest call e h = omega (arith, h)
one_call (x ∷ y ∷ more) rest call e h = cc

-- it stopped in its heartbeat
pub stopped_in_beat : {S : Type 0} (stores : Stores S) (before now : S) (end : RunEnd) (plan : StationPlan) (order : Order) (start : Node) (first last : Outside) → IsRunEnd end → SameRead first.link last.link → CallStopped stores before now end start [] Beats first last → StationLived stores before now plan order start (Err end) first last
stopped_in_beat stores before now end plan order start first last is read c =
    let s = more_to_come stores before now end start [] (Beats c.at ∷ []) (Obeys order c.at ∷ []) first last c.stopped in
    record {
      run = record {
        opening = Beats c.at ∷ Obeys order c.at ∷ [];
        is_opening = record { beat = c.at; at = c.at; are = refl };
        turns = [];
        rests = [];
        rested = tt;
        at = stopped_in_opening stores before now end start (Beats c.at ∷ Obeys order c.at ∷ []) first last read (c.timed, (c.timed, tt)) s;
        whole = cut_off end s.rest is;
      };
      within = omega arith;
      ends = station_cut_off plan end [] _ is;
      awaited = tt;
      judged = record {
        refused = λ e. absurd (run_not_refused end is e);
        accepted = λ h. absurd (one_call c.stopped.more c.stopped.rest (Beats c.at) c.stopped.are h);
      };
    }

-- at its order
order_cut_off : (end : RunEnd) (rest : List LiveCall) → IsOrderEnd end → IsWhole (Some end) rest
order_cut_off Usage rest h = absurd h
order_cut_off (Stopped error) rest h = tt
order_cut_off ReadFault rest h = absurd h
order_cut_off WriteFault rest h = tt
order_cut_off NoMemory rest h = tt
order_cut_off TurnsSpent rest h = absurd h
order_cut_off (Live (RefusedWith code)) rest h = absurd h
order_cut_off (Live (NoAnswer ticks)) rest h = absurd h
order_cut_off (Live StoreFault) rest h = tt
order_cut_off (Live (PortTurns turns)) rest h = absurd h
order_cut_off (Live PortFault) rest h = tt

order_ends_so : (plan : StationPlan) (end : RunEnd) (turns : List Turn) (said : Option (Result (List ℕ) RunEnd)) → IsOrderEnd end → StationEnds plan (Err end) turns said
order_ends_so plan Usage turns said h = absurd h
order_ends_so plan (Stopped error) turns said h = tt
order_ends_so plan ReadFault turns said h = absurd h
order_ends_so plan WriteFault turns said h = tt
order_ends_so plan NoMemory turns said h = tt
order_ends_so plan TurnsSpent turns said h = absurd h
order_ends_so plan (Live (RefusedWith code)) turns said h = absurd h
order_ends_so plan (Live (NoAnswer ticks)) turns said h = absurd h
order_ends_so plan (Live StoreFault) turns said h = tt
order_ends_so plan (Live (PortTurns most)) turns said h = absurd h
order_ends_so plan (Live PortFault) turns said h = tt

pub stopped_in_order : {S : Type 0} (stores : Stores S) (before middle now : S) (end : RunEnd) (plan : StationPlan) (order : Order) (start : Node) (beat : ℕ) (live : LiveNode) (t : RunLog) (first then last : Outside) → IsOrderEnd end → SameRead first.link last.link → IsTime first.time beat → (o : Output stores before middle start (Beats beat ∷ []) live t first then) → OrderStopped stores before now end start (Beats beat ∷ []) o.node order first last → StationLived stores before now plan order start (Err end) first last
stopped_in_order stores before middle now end plan order start beat live t first then last is read timed o c =
    let s = made_before stores before now end start [] (Beats beat ∷ []) (Obeys order c.at ∷ []) first last c.stopped in
    let keeps = beat_keeps order beat start o.node o.events o.run in
    record {
      run = record {
        opening = Beats beat ∷ Obeys order c.at ∷ [];
        is_opening = record { beat = beat; at = c.at; are = refl };
        turns = [];
        rests = [];
        rested = tt;
        at = stopped_in_opening stores before now end start (Beats beat ∷ Obeys order c.at ∷ []) first last read (timed, (c.timed, tt)) s;
        whole = order_cut_off end s.rest is;
      };
      within = omega arith;
      ends = order_ends_so plan end [] _ is;
      awaited = tt;
      judged = record {
        refused = λ e. let r = c.refused (because e) in (sym keeps ∙ r.0, ap (λ (l : List LiveCall). length (Beats beat ∷ l)) r.1);
        accepted = λ h. sym keeps ∙ c.accepted (less c.stopped.more h);
      };
    }
  where
    less : (more : List LiveCall) → 2 ≤ length (Beats beat ∷ more) → 1 ≤ length more
    less more h = omega (arith, h)

-- it waited
pub lived : {S : Type 0} (stores : Stores S) (before now : S) (plan : StationPlan) (order : Order) (start was : Node) (events : List NodeEvent) (beat at : ℕ) (r : Result (List ℕ) RunEnd) (first last : Outside) → calls_do (Beats beat ∷ []) start ≡ done was events → node_refuses was order ≡ false → IfErr r IsWaitedEnd → WaitedFor stores before now plan start (Beats beat ∷ Obeys order at ∷ []) r first last → StationLived stores before now plan order start r first last
lived stores before now plan order start was events beat at r first last run accepted is w = record {
  run = record {
    opening = Beats beat ∷ Obeys order at ∷ [];
    is_opening = record { beat = beat; at = at; are = refl };
    turns = w.turns;
    rests = w.rests;
    rested = w.rested;
    at = w.at;
    whole = w.whole;
  };
  within = w.within;
  ends = w.ends;
  awaited = w.awaited;
  judged = record {
    refused = λ e. absurd (waited_not_refused (result_err r) (either_end r is) e);
    accepted = λ h. sym (beat_keeps order beat start was events run) ∙ accepted;
  };
}

-- ---- from its start

pub opened_station : {S : Type 0} (stores : Stores S) (before now : S) (key : List ℕ) (me : Stream) (boot : ℕ) (view : StationView) (t : RunLog) (link : LinkState) (text : Option (List ℕ)) (time : Option ℕ) → Serves stores.faults stores.is_infallible before now → IsStation (new_station key me boot) view → HasRead [] [] view.link → t.name ≡ (record { sys = me.sys; comp = me.comp }) → t.sent ≡ 0 → t.ending ≡ None → t.ticks ≡ 0 → Opened stores before now (Station (new_station key me boot)) (LiveStation view) t (outside link text time)
opened_station stores before now key me boot view t link text time serves is stream name sent ending ticks = record {
  output = record {
    node = Station (new_station key me boot);
    events = [];
    run = refl;
    is = is;
    name = name;
    count = sent;
    ending = ending;
    ticks = ticks;
    faults = refl;
    sent = append_known_nil link.sent;
    printed = append_known_nil text;
    time = refl;
    kept = record { serves = serves; each = serves };
    stored = tt;
  };
  heard = stream;
  same = is.link.end.extras;
}

from_nothing : (contents fails : List ℕ) (before : MemStore) → contents ≡ [] → fails ≡ [] → before ≡ store_from_start contents fails → before ≡ store_from_start [] []
from_nothing contents fails before empty sure start = start ∙ (ap (λ (c : List ℕ). store_from_start c fails) empty ∙ ap (store_from_start []) sure)

-- over an empty store in memory, which never fails
pub ran_station : (key : List ℕ) (plan : StationPlan) (order : Order) (boot : ℕ) (contents fails : List ℕ) (before after : MemStore) (ended : Result (List ℕ) RunEnd) (end : Option RunEnd) (link : LinkState) (text : Option (List ℕ)) (asked time : Option ℕ) (told last : Outside) → contents ≡ [] → fails ≡ [] → before ≡ store_from_start contents fails → asked ≡ time → IsTime time boot → StationLived mem_stores before after plan order (Station (new_station key (stream_asked plan) boot)) ended (outside link text asked) told → Gives ended end told last → StationRan key plan order end (outside link text time) last
ran_station key plan order boot contents fails before after ended end link text asked time told last empty sure start stays timed run gives =
    let is : before ≡ store_from_start [] [] = from_nothing contents fails before empty sure start in
    record {
      boot = boot;
      timed = timed;
      after = after;
      ended = ended;
      told = told;
      lived =
          subst (λ (x : Option ℕ). StationLived mem_stores (store_from_start [] []) after plan order (Station (new_station key (stream_asked plan) boot)) ended (outside link text x) told) stays
          (subst (λ (s : MemStore). StationLived mem_stores s after plan order (Station (new_station key (stream_asked plan) boot)) ended (outside link text asked) told) is run);
      gives = gives;
    }

-- so no fault of it ends the run
pub station_ends : (contents fails : List ℕ) (before after : MemStore) (plan : StationPlan) (order : Order) (start : Node) (ended : Result (List ℕ) RunEnd) (first last : Outside) → contents ≡ [] → fails ≡ [] → before ≡ store_from_start contents fails → StationLived mem_stores before after plan order start ended first last → IfErr ended (λ end. (end ≡ Live StoreFault) ⊎ IsStationEnd end) → IfErr ended IsStationEnd
station_ends contents fails before after plan order start (Ok bytes) first last empty sure from lived h = tt
station_ends contents fails before after plan order start (Err end) first last empty sure from lived (inr is) = is
station_ends contents fails before after plan order start (Err end) first last empty sure from lived (inl e) =
    let of_nothing = subst (λ (s : MemStore). StationLived mem_stores s after plan order start (Err end) first last) (from_nothing contents fails before empty sure from) lived in
    absurd ((of_nothing.run.at.written.store (ap Some e)).fallible refl)
