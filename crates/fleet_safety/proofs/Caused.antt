-- The calls of each line are the events that it causes, and no others.
use Rattle.std.proofs.Common.{false, ◌≡◌, ℕ, zero, suc, ◌+◌, ◌-◌, ◌≤◌, ◌⊎◌, inl, inr, Bool, true, not, cond, nat_lt, List, [], ◌∷◌, ◌++◌, length, position, slice_get, Option, Some, None, Ok, Err, refl, sym, ap, subst, arith, ◌∙◌}
use Rattle.std.specs.Prelude.{unwrap_or}
use Rattle.std.specs.List.{position_or_len}
use Rattle.std.specs.declared.result.Result.{Result}
use Rattle.std.proofs.lemmas.List.{append-nil, length-append}
use Rattle.mav_names.specs.declared.names.Name.{Name}
use Rattle.mav_names.specs.declared.names.Stream.{Stream}
use Rattle.mav_frame.specs.Packet.{Packet, SignatureBlock}
use Rattle.mav_frame.specs.Encoding.{encoding}
use Rattle.mav_frame.specs.FinalParse.{final_parse}
use Rattle.mav_sign.specs.declared.admission.Admit.{Admit}
use Rattle.mav_sign.specs.declared.admission.Admit.TheVariants.{Admitted, Unsigned, BadSignature, BelowFloor, NotLater, TooOld, TooManyStreams}
use Rattle.mav_sign.specs.History.{next_in, answer_to, stream_of as signed_stream, greatest_stamp}
use Rattle.mav_sign.specs.Endpoints.{frames_of}
use Rattle.plan_items.specs.declared.messages.PlanMsg.{PlanMsg}
use Rattle.plan_items.specs.Kinds.{number_of}
use Rattle.plan_upload.specs.declared.faults.OpFault.{OpFault}
use Rattle.plan_upload.specs.Addresses.{node_of, same_name}
use Rattle.plan_upload.specs.Kinds.{clear_number}
use Rattle.plan_upload.specs.Refusals.{upload_refusal, refusal}
use Rattle.plan_safety.specs.World as world
use Rattle.plan_safety.specs.World.{Begins, Clears, Gets, Cancels, Drone_ticks, To_drone, To_station, Speaks, Drone_waits, Station_waits}
use Rattle.plan_safety.proofs.Keys.{by_test, bool_split, name_eq}
use Rattle.drone_sim.specs.Sim.{armed}
use Rattle.mav_nodes.specs.News.{NodeEvent}
use Rattle.mav_nodes.specs.Links.{Link, Outcome, after_events, and_then, tries, sends, sends_all}
use Rattle.mav_nodes.specs.LowBounds.{stored_low}
use Rattle.mav_nodes.specs.Restarts.{restarted_drone}
use Rattle.mav_nodes.specs.Payloads.{plan_in, service_in}
use Rattle.mav_nodes.specs.Services.{ServiceStep, drone_flies}
use Rattle.mav_messages.specs.declared.messages.Message.{Message}
use Rattle.mav_messages.specs.Plans.{message_of_plan}
use Rattle.command_proto.specs.Commander.{open_command}
use Rattle.mav_nodes.specs.Steps.{Side, Rules, CoreStep, answers, with_core, takes, admits, hears}
use Rattle.mav_nodes.specs.Nodes.{DroneSide, StationSide, drone_rules, station_rules, drone_heartbeat, drone_beats, station_heartbeat, station_beats, station_cancels, station_clears, station_gets, station_commands, station_lists_params, drone_sims}
use Rattle.fleet_report.specs.Events.{Event}
use Rattle.scenario_lines.specs.declared.lines.Line.{Line}
use Rattle.scenario_lines.specs.declared.lines.Line.TheVariants as line
use Rattle.node_reports.specs.Nodes.{Node, Drone, Station, node_name}
use Rattle.node_reports.specs.Calls.{as_drone, as_station, node_beats, node_ticks, node_flies}
use Rattle.fleet_world.specs.WorldState.{WorldState, stream_of, is_named, is_drone_named, is_station_named}
use Rattle.fleet_world.specs.declared.locations.Location.{Location}
use Rattle.fleet_world.specs.Steps.{Step, StepError, given_to, given_to_all, node_does, station_line, restart_line, orders, upload_begins, command_busy, params_busy, asks, calls, location_in, locates_as}
use Rattle.fleet_invariants.specs.Sound.{link_of, SoundCore, Sound}
use Rattle.fleet_invariants.proofs.Heard.{heard_is}
use Rattle.fleet_safety.specs.Actions.{Action, Order, Accepts_upload, Accepts_clear, Accepts_get, spoken, spoken_in, asking, command_at, params_at, moves, ticks, comes_to, accepted, cancelled, ticked, beaten, restarted_at, restarted, at_drone, if_drone, to_drone, upload_at, clear_at, get_at, cancel_at, if_admitted, if_plan, if_sent, hearing, index_of, ordering, node_hears, state_with, at_index, if_found, at_node, and_next, at_station, if_ordered, to_station, acts, hears_then, frames_heard, datagram_heard, frame_given, row_given, flown, flow_actions, delivered, calls_of, simmed, flight_actions}
use Rattle.fleet_safety.specs.Safe.{events_of}
use Rattle.fleet_safety.specs.Causes.{without_waits, AtMostOne, EachEvent, Of, Gives, Talks, Hears, HearsOne, TicksOnce, TicksAtMost, StartsAgain, Causes, Flies}
use Rattle.fleet_safety.proofs.Lists.{some_is}
use Rattle.fleet_safety.proofs.Follows.{events_on}
use Rattle.fleet_safety.proofs.Services.{few_flown, flown_aside}
use Rattle.fleet_safety.proofs.Talks.{waits_on, each_on, each_maps, at_most_one, spoken_talks, outcome_talks, Few, drone_wait, station_wait, sends_few, commands_few, params_few, plan_silent, drone_ticks_silent, drone_few, station_few, station_ticks_few, idle_ticks_few, all_few}

-- ---- the node at the index of a name has that name

passes_there : {A : Type 0} (p : A → Bool) (xs : List A) (x : A) → slice_get xs (position_or_len p xs) ≡ Some x → p x ≡ true
passes_there p [] x e = nowhere (position_or_len p []) e
  where
    nowhere : (i : ℕ) → slice_get [] i ≡ Some x → p x ≡ true
    nowhere zero e = absurd (cc)
    nowhere (suc i) e = absurd (cc)
passes_there p (y ∷ ys) x e = elim (bool_split (p y)) [
  | inl t ↦ (let z : slice_get (y ∷ ys) (cond (not true) (1 + position_or_len p ys) 0) ≡ Some x = subst (λ b. slice_get (y ∷ ys) (cond (not b) (1 + position_or_len p ys) 0) ≡ Some x) t e in subst (λ v. p v ≡ true) (some_is z) t)
  | inr f ↦ (let z : slice_get (y ∷ ys) (1 + position_or_len p ys) ≡ Some x = subst (λ b. slice_get (y ∷ ys) (cond (not b) (1 + position_or_len p ys) 0) ≡ Some x) f e in
      passes_there p ys x (sym (ap (slice_get (y ∷ ys)) (one_more (position_or_len p ys))) ∙ z))
]
  where
    one_more : (k : ℕ) → 1 + k ≡ suc k
    one_more k = omega arith

pub passes_at : {A : Type 0} (p : A → Bool) (xs : List A) (k : ℕ) (x : A) → position p xs ≡ Some k → slice_get xs k ≡ Some x → p x ≡ true
passes_at p xs k x is e =
    by_test (λ (o : Option ℕ). o ≡ Some k → p x ≡ true) (nat_lt (position_or_len p xs) (length xs)) (Some (position_or_len p xs)) None
    (λ _ same. passes_there p xs x (ap (slice_get xs) (some_is same) ∙ e)) (λ _ same. absurd (cc)) is

-- ---- what is shown of the actions of a line

-- their events, without the waits
abbrev main : List Action → List world.Event
main actions = without_waits (events_of actions)

-- one list of actions and then another
main_on : (P : world.Event → Type 0) (actions more : List Action) → EachEvent P (main actions) → EachEvent P (main more) → EachEvent P (main (actions ++ more))
main_on P actions more a b =
    subst (EachEvent P) (sym (ap without_waits (events_on actions more) ∙ waits_on (events_of actions) (events_of more)))
    (each_on P (main actions) (main more) a b)

-- one event at most
one : (P : world.Event → Type 0) (e : world.Event) → P e → AtMostOne P (e ∷ [])
one P e h = inr (e, refl, h)

acts_one : (P : List world.Event → Type 0) (number : ℕ) (es : List world.Event) (os : List Order) (r : Result Step StepError) → P [] → P (without_waits es) → P (main (acts number es os r))
acts_one P number es os (Ok t) none h = subst (λ fs. P (without_waits fs)) (sym (append-nil es)) h
acts_one P number es os (Err error) none h = none

ordering_one : (P : List world.Event → Type 0) (clock : ℕ) (a : StationSide) (why : Option OpFault) (e : world.Event) → P (without_waits (e ∷ [])) → P (without_waits (moves clock (Station a) e)) → P (without_waits (ordering clock a why e))
ordering_one P clock a (Some why) e h k = h
ordering_one P clock a None e h k = k

-- at the node of a name, if there is one
node_named : (name : Name) (a : Node) → is_named name a ≡ true → node_of (link_of a).me ≡ name
node_named name (Drone a) t = name_eq (node_of a.link.me) name t
node_named name (Station a) t = name_eq (node_of a.link.me) name t

at_placed_node : (P : List world.Event → Type 0) (s : WorldState) (name : Name) (call : WorldState → ℕ → Node → List Action) → P [] → ((k : ℕ) (a : Node) → slice_get s.nodes k ≡ Some a → node_of (link_of a).me ≡ name → P (main (call s k a))) → P (main (at_node s name call))
at_placed_node P s name call none h = by_place (position (is_named name) s.nodes) refl
  where
    by_node : (k : ℕ) (o : Option Node) → position (is_named name) s.nodes ≡ Some k → slice_get s.nodes k ≡ o → P (main (at_index s k o call))
    by_node k None is e = none
    by_node k (Some a) is e = h k a e (node_named name a (passes_at (is_named name) s.nodes k a is e))

    by_place : (o : Option ℕ) → position (is_named name) s.nodes ≡ o → P (main (if_found s o call))
    by_place None is = none
    by_place (Some k) is = by_node k (slice_get s.nodes k) is refl

at_node_has : (P : List world.Event → Type 0) (s : WorldState) (name : Name) (call : WorldState → ℕ → Node → List Action) → P [] → ((k : ℕ) (a : Node) → node_of (link_of a).me ≡ name → P (main (call s k a))) → P (main (at_node s name call))
at_node_has P s name call none h = at_placed_node P s name call none (λ k a there is. h k a is)

to_station_has : (P : List world.Event → Type 0) (s : WorldState) (name : Name) (order : ℕ → StationSide → List Action) → P [] → ((k : ℕ) (a : StationSide) → node_of a.link.me ≡ name → P (main (order k a))) → P (main (to_station s name order))
to_station_has P s name order none h = by_place (position (is_station_named name) s.nodes) refl
  where
    by_node : (k : ℕ) (o : Option Node) → position (is_station_named name) s.nodes ≡ Some k → slice_get s.nodes k ≡ o → P (main (at_station k o order))
    by_node k None is e = none
    by_node k (Some (Drone a)) is e = none
    by_node k (Some (Station a)) is e = h k a (name_eq (node_of a.link.me) name (passes_at (is_station_named name) s.nodes k (Station a) is e))

    by_place : (o : Option ℕ) → position (is_station_named name) s.nodes ≡ o → P (main (if_ordered s o order))
    by_place None is = none
    by_place (Some k) is = by_node k (slice_get s.nodes k) is refl

-- and at the drone of a name
to_drone_has : (P : List world.Event → Type 0) (number : ℕ) (s : WorldState) (name : Name) → P [] → ((k : ℕ) (a : DroneSide) → node_of a.link.me ≡ name → P (main (restarted number s k a))) → P (main (to_drone number s name))
to_drone_has P number s name none h = by_place (position (is_drone_named name) s.nodes) refl
  where
    by_node : (k : ℕ) (o : Option Node) → position (is_drone_named name) s.nodes ≡ Some k → slice_get s.nodes k ≡ o → P (main (at_drone number s k o))
    by_node k None is e = none
    by_node k (Some (Station a)) is e = none
    by_node k (Some (Drone a)) is e = h k a (name_eq (node_of a.link.me) name (passes_at (is_drone_named name) s.nodes k (Drone a) is e))

    by_place : (o : Option ℕ) → position (is_drone_named name) s.nodes ≡ o → P (main (if_drone number s o))
    by_place None is = none
    by_place (Some k) is = by_node k (slice_get s.nodes k) is refl

-- ---- a node that hears a frame signs as before

module _ (me : Stream) where
  abbrev LinkKeeps : Outcome Link → Type 0
  LinkKeeps None = Unit {0}
  LinkKeeps (Some d) = d.node.me ≡ me

  link_sends : (clock : ℕ) (m : Message) (link : Link) → link.me ≡ me → LinkKeeps (sends clock m link)
  link_sends clock m link h = by_test LinkKeeps (nat_lt greatest_stamp (next_in link.history clock)) _ _ (λ _. tt) (λ _. h)

  then_sends : (o : Outcome Link) (next : Link → Outcome Link) → LinkKeeps o → ((link : Link) → link.me ≡ me → LinkKeeps (next link)) → LinkKeeps (and_then o next)
  then_sends None next h k = tt
  then_sends (Some d) next h k = after (next d.node) (k d.node h)
    where
      after : (o : Outcome Link) → LinkKeeps o → LinkKeeps (after_events d.events o)
      after None l = tt
      after (Some e) l = l

  all_sent : (clock : ℕ) (ms : List Message) (link : Link) → link.me ≡ me → LinkKeeps (sends_all clock ms link)
  all_sent clock [] link h = h
  all_sent clock (m ∷ ms) link h = then_sends (sends clock m link) (sends_all clock ms) (link_sends clock m link h) (all_sent clock ms)

  answers_keep : (clock : ℕ) (o : Option PlanMsg) (link : Link) → link.me ≡ me → LinkKeeps (answers clock o link)
  answers_keep clock None link h = h
  answers_keep clock (Some m) link h = link_sends clock (message_of_plan m) link h

module _ {Core Services : Type 0} (me : Stream) where
  abbrev Keeps : Outcome (Side Core Services) → Type 0
  Keeps None = Unit {0}
  Keeps (Some d) = d.node.link.me ≡ me

  core_keeps : (core : Core) (services : Services) (last : List NodeEvent) (o : Outcome Link) → LinkKeeps me o → Keeps (with_core core services last o)
  core_keeps core services last None h = tt
  core_keeps core services last (Some d) h = h

  steps_keep : (first : List NodeEvent) (o : Outcome (Side Core Services)) → Keeps o → Keeps (after_events first o)
  steps_keep first None h = tt
  steps_keep first (Some d) h = h

  module _ (rules : Rules Core Services) (clock : ℕ) where
    takes_keep : (a : Side Core Services) (from : Stream) (o : Option PlanMsg) (s : Option Message) → a.link.me ≡ me → Keeps (takes rules clock a from o s)
    takes_keep a from None None h = h
    takes_keep a from None (Some m) h =
        let done : ServiceStep Services = rules.serve a.core a.services from m in
        core_keeps a.core done.services done.last (sends_all clock done.answers a.link) (all_sent me clock done.answers a.link h)
    takes_keep a from (Some m) s h =
        let done : CoreStep Core = rules.take a.core from m in
        let noted : Services = rules.note a.services done.first in
        steps_keep done.first (with_core done.core noted done.last (answers clock done.answer a.link)) (core_keeps done.core noted done.last (answers clock done.answer a.link) (answers_keep me clock done.answer a.link h))

    admits_keep : (a : Side Core Services) (p : Packet) (answer : Admit) (block : Option SignatureBlock) → a.link.me ≡ me → Keeps (admits rules clock a p answer block)
    admits_keep a p Admitted None h = h
    admits_keep a p Admitted (Some block) h = takes_keep a (signed_stream p block) (plan_in p.id p.payload) (service_in p.id p.payload) h
    admits_keep a p Unsigned block h = h
    admits_keep a p BadSignature block h = h
    admits_keep a p (BelowFloor floor) block h = h
    admits_keep a p (NotLater last) block h = h
    admits_keep a p (TooOld local) block h = h
    admits_keep a p TooManyStreams block h = h

    hears_keep : (p : Packet) (a : Side Core Services) → a.link.me ≡ me → Keeps (hears rules clock p a)
    hears_keep p a h = admits_keep (record a { link = tries p a.link }) p (answer_to a.link.key a.link.history p) p.block h

abbrev NodeKeeps : Stream → Outcome Node → Type 0
NodeKeeps me None = Unit {0}
NodeKeeps me (Some d) = (link_of d.node).me ≡ me

node_keeps : (clock : ℕ) (p : Packet) (a : Node) (me : Stream) → (link_of a).me ≡ me → NodeKeeps me (node_hears clock p a)
node_keeps clock p (Drone a) me h = of_drone (hears drone_rules clock p a) (hears_keep me drone_rules clock p a h)
  where
    of_drone : (o : Outcome DroneSide) → Keeps me o → NodeKeeps me (as_drone o)
    of_drone None k = tt
    of_drone (Some d) k = k
node_keeps clock p (Station a) me h = of_station (hears station_rules clock p a) (hears_keep me station_rules clock p a h)
  where
    of_station : (o : Outcome StationSide) → Keeps me o → NodeKeeps me (as_station o)
    of_station None k = tt
    of_station (Some d) k = k

-- ---- frames at a node

given_to_node : (clock : ℕ) (a : Node) (me : Stream) (index : ℕ) → (link_of a).me ≡ me → EachEvent (Gives me) (without_waits (moves clock a (comes_to a index)))
given_to_node clock (Drone a) me index h = ((index, inl (ap (λ x. To_drone index x true) h)), tt)
given_to_node clock (Station a) me index h = ((index, inr (ap (λ x. To_station index x) h)), tt)

hearing_gives : (clock : ℕ) (sent : List Packet) (a : Node) (p : Packet) (me : Stream) → (link_of a).me ≡ me → EachEvent (Gives me) (without_waits (hearing clock sent a p))
hearing_gives clock sent a p me h = by_answer (answer_to (link_of a).key (link_of a).history p)
  where
    by_place : (o : Option ℕ) → EachEvent (Gives me) (without_waits (if_sent o (λ index. moves clock a (comes_to a index))))
    by_place None = tt
    by_place (Some index) = given_to_node clock a me index h

    by_plan : (o : Option PlanMsg) → EachEvent (Gives me) (without_waits (if_plan o (if_sent (index_of (encoding p) sent) (λ index. moves clock a (comes_to a index)))))
    by_plan None = tt
    by_plan (Some m) = by_place (index_of (encoding p) sent)

    by_answer : (answer : Admit) → EachEvent (Gives me) (without_waits (if_admitted answer (if_plan (plan_in p.id p.payload) (if_sent (index_of (encoding p) sent) (λ index. moves clock a (comes_to a index))))))
    by_answer Admitted = by_plan (plan_in p.id p.payload)
    by_answer Unsigned = tt
    by_answer BadSignature = tt
    by_answer (BelowFloor floor) = tt
    by_answer (NotLater last) = tt
    by_answer (TooOld local) = tt
    by_answer TooManyStreams = tt

-- and what is said in reply
heard_hears : (clock : ℕ) (sent : List Packet) (a : Node) (p : Packet) (me : Stream) → (link_of a).me ≡ me → (es : List NodeEvent) → EachEvent (Hears me) (without_waits (hearing clock sent a p ++ spoken a es))
heard_hears clock sent a p me h es =
    subst (EachEvent (Hears me)) (sym (waits_on (hearing clock sent a p) (spoken a es)))
    (each_on (Hears me) (without_waits (hearing clock sent a p)) (without_waits (spoken a es))
    (each_maps (Gives me) (Hears me) (λ e g. inl g) (without_waits (hearing clock sent a p)) (hearing_gives clock sent a p me h))
    (each_maps (Talks me) (Hears me) (λ e g. inr g) (without_waits (spoken a es)) (spoken_talks a me h es)))

-- what a node says in a call of at most one message
of_talks : (name : Name) (a : Node) → node_of (link_of a).me ≡ name → (o : Outcome Node) → EachEvent (Of name Talks) (without_waits (spoken_in a o))
of_talks name a is o =
    each_maps (Talks (link_of a).me) (Of name Talks) (λ e h. record { stream = (link_of a).me; name_is = is; is = h }) (without_waits (spoken_in a o)) (outcome_talks a (link_of a).me refl o)

outcome_one : (name : Name) (a : Node) → node_of (link_of a).me ≡ name → (o : Outcome Node) → length (without_waits (spoken_in a o)) ≤ 1 → AtMostOne (Of name Talks) (without_waits (spoken_in a o))
outcome_one name a is o few = at_most_one (Of name Talks) (without_waits (spoken_in a o)) (of_talks name a is o) few

asked_one : (name : Name) (a : StationSide) → node_of a.link.me ≡ name → (refused : Option Event) (o : Outcome StationSide) → Few (Station_waits a.link.me) a.link.me 1 o → AtMostOne (Of name Talks) (without_waits (asking a refused o))
asked_one name a is (Some event) o few = inl refl
asked_one name a is None o few = outcome_one name (Station a) is (as_station o) (station_few a o 1 few)

beats_few : (clock : ℕ) (a : Node) → length (without_waits (spoken_in a (node_beats clock a))) ≤ 1
beats_few clock (Drone a) = drone_few a (drone_beats clock a) 1 (sends_few (Drone_waits a.link.me) a.link.me (drone_wait a.link.me) a.core a.services [] refl clock (drone_heartbeat (armed a.services.sim)) a.link)
beats_few clock (Station a) = station_few a (station_beats clock a) 1 (sends_few (Station_waits a.link.me) a.link.me (station_wait a.link.me) a.core a.services [] refl clock station_heartbeat a.link)

sims_few : (clock : ℕ) (a : Node) → length (without_waits (spoken_in a (node_flies clock a))) ≤ 2
sims_few clock (Drone a) =
    let step = drone_flies a.core a.services in
    let sent = few_flown a.core a.services in
    let said = drone_few a (drone_sims clock a) (length step.answers) (all_few (Drone_waits a.link.me) a.link.me (drone_wait a.link.me) a.core step.services step.last ((flown_aside a.core a.services).unspoken (Drone_waits a.link.me) a.link.me) clock step.answers a.link) in
    omega (arith, sent, said)
sims_few clock (Station a) = omega arith

drone_ticks_once : (most clock : ℕ) (name : Name) (a : DroneSide) → node_of a.link.me ≡ name → TicksOnce most name (without_waits (moves clock (Drone a) (ticks (Drone a)) ++ spoken_in (Drone a) (node_ticks clock (Drone a))))
drone_ticks_once most clock name a is = record {
  stream = a.link.me;
  name_is = is;
  later = [];
  is = inl (ap (λ es. Drone_ticks a.link.me ∷ without_waits es) (drone_ticks_silent clock a));
  talks = tt;
  few = omega arith;
}

station_ticks_once : (most clock : ℕ) (name : Name) (a : StationSide) → node_of a.link.me ≡ name → length (without_waits (spoken_in (Station a) (node_ticks clock (Station a)))) ≤ most
    → TicksOnce most name (without_waits (moves clock (Station a) (ticks (Station a)) ++ spoken_in (Station a) (node_ticks clock (Station a))))
station_ticks_once most clock name a is few = record {
  stream = a.link.me;
  name_is = is;
  later = without_waits (spoken_in (Station a) (node_ticks clock (Station a)));
  is = inr refl;
  talks = outcome_talks (Station a) a.link.me refl (node_ticks clock (Station a));
  few = few;
}

ticks_once : (clock : ℕ) (name : Name) (a : Node) → node_of (link_of a).me ≡ name → TicksOnce 3 name (without_waits (moves clock a (ticks a) ++ spoken_in a (node_ticks clock a)))
ticks_once clock name (Drone a) is = drone_ticks_once 3 clock name a is
ticks_once clock name (Station a) is = station_ticks_once 3 clock name a is (station_ticks_few clock a)

-- in a sound state no station transfers a file
ticks_soundly : (clock : ℕ) (name : Name) (a : Node) → SoundCore a → node_of (link_of a).me ≡ name → TicksOnce 2 name (without_waits (moves clock a (ticks a) ++ spoken_in a (node_ticks clock a)))
ticks_soundly clock name (Drone a) sound is = drone_ticks_once 2 clock name a is
ticks_soundly clock name (Station a) sound is = station_ticks_once 2 clock name a is (idle_ticks_few clock a sound.services.no_transfer)

module _ (number : ℕ) where
  hears_then_gives : (k : ℕ) (s : WorldState) (a : Node) (p : Packet) (me : Stream) → (link_of a).me ≡ me → (next : WorldState → Node → List Action) → ((t : WorldState) (b : Node) → (link_of b).me ≡ me → EachEvent (Hears me) (main (next t b))) → (o : Outcome Node) → NodeKeeps me o → EachEvent (Hears me) (main (hears_then number s k a p o next))
  hears_then_gives k s a p me h next rest None keeps = tt
  hears_then_gives k s a p me h next rest (Some d) keeps =
      let heard : List world.Event = hearing s.clock s.sent a p ++ spoken a d.events in
      subst (EachEvent (Hears me)) (sym (waits_on heard (events_of (next (state_with s k d) d.node))))
      (each_on (Hears me) (without_waits heard) (main (next (state_with s k d) d.node)) (heard_hears s.clock s.sent a p me h d.events) (rest (state_with s k d) d.node keeps))

  frames_give : (k : ℕ) (ps : List Packet) (me : Stream) (s : WorldState) (a : Node) → (link_of a).me ≡ me → EachEvent (Hears me) (main (frames_heard number k ps s a))
  frames_give k [] me s a h = tt
  frames_give k (p ∷ ps) me s a h =
      hears_then_gives k s a p me h (frames_heard number k ps) (λ t b same. frames_give k ps me t b same) (node_hears s.clock p a) (node_keeps s.clock p a me h)

  datagram_gives : (bytes : List ℕ) (s : WorldState) (k : ℕ) (a : Node) → EachEvent (Hears (link_of a).me) (main (datagram_heard number bytes s k a))
  datagram_gives bytes s k a = frames_give k (frames_of (final_parse (link_of a).extras false bytes)) (link_of a).me s a refl

  datagram_of : (bytes : List ℕ) (s : WorldState) (name : Name) (k : ℕ) (a : Node) → node_of (link_of a).me ≡ name → EachEvent (Of name Hears) (main (datagram_heard number bytes s k a))
  datagram_of bytes s name k a is =
      each_maps (Hears (link_of a).me) (Of name Hears) (λ e h. record { stream = (link_of a).me; name_is = is; is = h }) (main (datagram_heard number bytes s k a)) (datagram_gives bytes s k a)

  -- ---- flows

  abbrev Any : world.Event → Type 0
  Any e = (me : Stream) × Hears me e

  next_give : (r : Result Step StepError) (actions : List Action) (next : WorldState → List Action) → EachEvent Any (main actions) → ((t : WorldState) → EachEvent Any (main (next t))) → EachEvent Any (main (and_next r actions next))
  next_give (Ok t) actions next a b = main_on Any actions (next t.state) a (b t.state)
  next_give (Err error) actions next a b = tt

  frame_gives : (s : WorldState) (k : ℕ) (p : Packet) (o : Option Node) → EachEvent Any (main (frame_given number s k p o))
  frame_gives s k p None = tt
  frame_gives s k p (Some a) =
      by_test (λ actions. EachEvent Any (main actions)) (same_name (node_name a) p.from) _ _ (λ _. tt)
      (λ _. each_maps (Hears (link_of a).me) Any (λ e h. ((link_of a).me, h)) (main (datagram_heard number (encoding p) s k a)) (datagram_gives (encoding p) s k a))

  row_gives : (s : WorldState) (k count : ℕ) (p : Packet) → EachEvent Any (main (row_given number s k count p))
  row_gives s k zero p = tt
  row_gives s k (suc count) p =
      next_give (given_to s k p (slice_get s.nodes k)) (frame_given number s k p (slice_get s.nodes k)) (λ t. row_given number t (k + 1) count p)
      (frame_gives s k p (slice_get s.nodes k)) (λ t. row_gives t (k + 1) count p)

  flown_gives : (s : WorldState) (o : Option Packet) (next : WorldState → List Action) → ((t : WorldState) → EachEvent Any (main (next t))) → EachEvent Any (main (flown number s o next))
  flown_gives s None next h = tt
  flown_gives s (Some p) next h =
      let s1 : WorldState = record s { given = s.given + 1 } in
      next_give (given_to_all s1 p) (row_given number s1 0 (length s.nodes) p) next (row_gives s1 0 (length s.nodes) p) h

  flow_gives : (k : ℕ) (s : WorldState) → EachEvent Any (main (flow_actions number k s))
  flow_gives zero s = tt
  flow_gives (suc k) s = flown_gives s (slice_get s.sent s.given) (flow_actions number k) (λ t. flow_gives k t)

  delivered_gives : (s : WorldState) (which : ℕ) (name : Name) (o : Option Packet) → EachEvent (Of name Hears) (main (delivered number s which name o))
  delivered_gives s which name None = tt
  delivered_gives s which name (Some p) = at_node_has (EachEvent (Of name Hears)) s name (datagram_heard number (encoding p)) tt (λ k a is. datagram_of (encoding p) s name k a is)

  -- ---- a flight

  next_flies : (name : Name) (ticks : ℕ) (r : Result Step StepError) (actions : List Action) (next : WorldState → List Action) → Flies name 1 (main actions) → ((t : WorldState) → Flies name ticks (main (next t))) → Flies name (suc ticks) (main (and_next r actions next))
  next_flies name ticks (Ok t) actions next a b =
      let later = b t.state in
      let both = ap length (ap without_waits (events_on actions (next t.state)) ∙ waits_on (events_of actions) (events_of (next t.state))) ∙ length-append (main actions) (main (next t.state)) in
      let first = a.few in
      let rest = later.few in
      record { talks = main_on (Of name Talks) actions (next t.state) a.talks later.talks; few = omega (arith, both, first, rest) }
  next_flies name ticks (Err error) actions next a b = record { talks = tt; few = omega arith }

  flight_flies : (ticks : ℕ) (name : Name) (s : WorldState) → Flies name ticks (main (flight_actions number ticks name s))
  flight_flies zero name s = record { talks = tt; few = omega arith }
  flight_flies (suc ticks) name s =
      next_flies name ticks (calls s name (node_flies s.clock)) (at_node s name (simmed number)) (flight_actions number ticks name)
      (at_node_has (Flies name 1) s name (simmed number) (record { talks = tt; few = omega arith })
      (λ k a is.
      acts_one (Flies name 1) number (spoken_in a (node_flies s.clock a)) [] (node_does s k (node_name a) (node_flies s.clock a)) (record { talks = tt; few = omega arith })
      (record { talks = of_talks name a is (node_flies s.clock a); few = sims_few s.clock a })))
      (λ t. flight_flies ticks name t)

  located : (s : WorldState) (drone : Name) (at : Option Location) → main (acts number [] [] (locates_as s drone at)) ≡ []
  located s drone None = refl
  located s drone (Some at) = refl

  -- ---- each line

  pub every_cause : (s : WorldState) (l : Line) → Causes s l (main (calls_of number s l))
  every_cause s line.Blank = refl
  every_cause s (line.Drone sys x y) = refl
  every_cause s (line.Station sys comp) = refl
  every_cause s (line.Item item) = refl
  every_cause s (line.Items count first) = refl
  every_cause s line.Empty = refl
  every_cause s (line.Begin station drone kind) =
      let P : world.Event → Type 0 = Of station (λ me e. e ≡ Begins me (stream_of drone) kind s.draft) in
      let from : WorldState = station_line s in
      to_station_has (AtMostOne P) from station (λ k a. upload_at number from drone kind (upload_refusal a.core (number_of kind) s.draft) k a) (inl refl)
      (λ k a is.
      let why : Option OpFault = upload_refusal a.core (number_of kind) s.draft in
      let e : world.Event = Begins a.link.me (stream_of drone) kind s.draft in
      let h : AtMostOne P (e ∷ []) = one P e (record { stream = a.link.me; name_is = is; is = refl }) in
      acts_one (AtMostOne P) number (ordering s.clock a why e) (accepted why (Accepts_upload a.link.me (stream_of drone) (number_of kind) s.draft)) (upload_begins from k a drone (number_of kind) why) (inl refl)
      (ordering_one (AtMostOne P) s.clock a why e h h))
  every_cause s (line.Cancel station) =
      let P : world.Event → Type 0 = Of station (λ me e. e ≡ Cancels me) in
      let from : WorldState = station_line s in
      to_station_has (AtMostOne P) from station (cancel_at number from) (inl refl)
      (λ k a is.
      acts_one (AtMostOne P) number (moves s.clock (Station a) (Cancels a.link.me)) (cancelled a.link.me a.core.operation) (orders from k a None (station_cancels s.clock a)) (inl refl)
      (one P (Cancels a.link.me) (record { stream = a.link.me; name_is = is; is = refl })))
  every_cause s (line.Clear station drone kind) =
      let P : world.Event → Type 0 = Of station (λ me e. e ≡ Clears me (stream_of drone) kind) in
      let from : WorldState = station_line s in
      to_station_has (AtMostOne P) from station (λ k a. clear_at number from drone kind (refusal a.core) k a) (inl refl)
      (λ k a is.
      let e : world.Event = Clears a.link.me (stream_of drone) kind in
      let h : AtMostOne P (e ∷ []) = one P e (record { stream = a.link.me; name_is = is; is = refl }) in
      acts_one (AtMostOne P) number (ordering s.clock a (refusal a.core) e) (accepted (refusal a.core) (Accepts_clear a.link.me (stream_of drone) (world.clear_number kind))) (orders from k a (refusal a.core) (station_clears s.clock (stream_of drone) (clear_number kind) a)) (inl refl)
      (ordering_one (AtMostOne P) s.clock a (refusal a.core) e h h))
  every_cause s (line.Get station drone kind) =
      let P : world.Event → Type 0 = Of station (λ me e. e ≡ Gets me (stream_of drone) kind) in
      let from : WorldState = station_line s in
      to_station_has (AtMostOne P) from station (λ k a. get_at number from drone kind (refusal a.core) k a) (inl refl)
      (λ k a is.
      let e : world.Event = Gets a.link.me (stream_of drone) kind in
      let h : AtMostOne P (e ∷ []) = one P e (record { stream = a.link.me; name_is = is; is = refl }) in
      acts_one (AtMostOne P) number (ordering s.clock a (refusal a.core) e) (accepted (refusal a.core) (Accepts_get a.link.me (stream_of drone) (number_of kind))) (orders from k a (refusal a.core) (station_gets s.clock (stream_of drone) (number_of kind) a)) (inl refl)
      (ordering_one (AtMostOne P) s.clock a (refusal a.core) e h h))
  every_cause s (line.Command station drone which word) =
      let from : WorldState = station_line s in
      to_station_has (AtMostOne (Of station Talks)) from station (command_at number from drone which word) (inl refl)
      (λ k a is.
      let refused : Option Event = command_busy (node_of a.link.me) (open_command a.services.commander) in
      let outcome : Outcome StationSide = station_commands s.clock (stream_of drone) which word a in
      acts_one (AtMostOne (Of station Talks)) number (asking a refused outcome) [] (asks from k a refused outcome) (inl refl)
      (asked_one station a is refused outcome (commands_few s.clock (stream_of drone) which word a)))
  every_cause s (line.Params station drone) =
      let from : WorldState = station_line s in
      to_station_has (AtMostOne (Of station Talks)) from station (params_at number from drone) (inl refl)
      (λ k a is.
      let refused : Option Event = params_busy (node_of a.link.me) a.services.client.operation in
      let outcome : Outcome StationSide = station_lists_params s.clock (stream_of drone) a in
      acts_one (AtMostOne (Of station Talks)) number (asking a refused outcome) [] (asks from k a refused outcome) (inl refl)
      (asked_one station a is refused outcome (params_few s.clock (stream_of drone) a)))
  every_cause s (line.Heartbeat node) =
      at_node_has (AtMostOne (Of node Talks)) s node (beaten number) (inl refl)
      (λ k a is.
      acts_one (AtMostOne (Of node Talks)) number (spoken_in a (node_beats s.clock a)) [] (node_does s k (node_name a) (node_beats s.clock a)) (inl refl)
      (outcome_one node a is (node_beats s.clock a) (beats_few s.clock a)))
  every_cause s (line.Deliver which node) = delivered_gives s which node (slice_get s.sent (which - 1))
  every_cause s (line.Flow k) = flow_gives k s
  every_cause s (line.Noise node bytes) = at_node_has (EachEvent (Of node Hears)) s node (datagram_heard number bytes) tt (λ k a is. datagram_of bytes s node k a is)
  every_cause s (line.Tick node) =
      at_node_has (TicksAtMost 3 node) s node (ticked number) (inl refl)
      (λ k a is.
      acts_one (TicksAtMost 3 node) number (moves s.clock a (ticks a) ++ spoken_in a (node_ticks s.clock a)) [] (node_does s k (node_name a) (node_ticks s.clock a)) (inl refl)
      (inr (ticks_once s.clock node a is)))
  every_cause s (line.Clock n) = refl
  every_cause s (line.Sim drone ticks) = flight_flies ticks drone s
  every_cause s (line.WhereIs drone) = located s drone (location_in s.nodes drone)
  every_cause s (line.Restart drone) = to_drone_has (λ es. (es ≡ []) ⊎ StartsAgain drone es) number (restart_line s) drone (inl refl) (λ k a is. inr (starting (restart_line s) drone k a is))
    where
      starting : (t : WorldState) (name : Name) (k : ℕ) (a : DroneSide) → node_of a.link.me ≡ name → StartsAgain name (main (restarted number t k a))
      starting t name k a is = record {
        stream = a.link.me;
        name_is = is;
        low = unwrap_or (stored_low a.link.history) 0;
        later = main (beaten number (restarted_at t k a) k (Drone (restarted_drone t.key a)));
        is = refl;
        beats =
            let P : world.Event → Type 0 = λ e. (me : Stream) × (e ≡ Speaks me) in
            let b : DroneSide = restarted_drone t.key a in
            acts_one (AtMostOne P) number (spoken_in (Drone b) (node_beats t.clock (Drone b))) [] (node_does (restarted_at t k a) k (node_name (Drone b)) (node_beats t.clock (Drone b))) (inl refl)
            (at_most_one P (without_waits (spoken_in (Drone b) (node_beats t.clock (Drone b))))
            (each_maps (Talks b.link.me) P (λ e h. (b.link.me, h)) (without_waits (spoken_in (Drone b) (node_beats t.clock (Drone b)))) (outcome_talks (Drone b) b.link.me refl (node_beats t.clock (Drone b))))
            (beats_few t.clock (Drone b)));
      }

  -- ---- a sent frame is heard alone, so that it comes once

  hearing_one : (clock : ℕ) (sent : List Packet) (a : Node) (p : Packet) (name : Name) → node_of (link_of a).me ≡ name → AtMostOne (Of name Gives) (without_waits (hearing clock sent a p))
  hearing_one clock sent a p name is = by_answer (answer_to (link_of a).key (link_of a).history p)
    where
      comes : (b : Node) (index : ℕ) → node_of (link_of b).me ≡ name → AtMostOne (Of name Gives) (without_waits (moves clock b (comes_to b index)))
      comes (Drone b) index h = one (Of name Gives) (To_drone index b.link.me true) (record { stream = b.link.me; name_is = h; is = (index, inl refl) })
      comes (Station b) index h = one (Of name Gives) (To_station index b.link.me) (record { stream = b.link.me; name_is = h; is = (index, inr refl) })

      by_place : (o : Option ℕ) → AtMostOne (Of name Gives) (without_waits (if_sent o (λ index. moves clock a (comes_to a index))))
      by_place None = inl refl
      by_place (Some index) = comes a index is

      by_plan : (o : Option PlanMsg) → AtMostOne (Of name Gives) (without_waits (if_plan o (if_sent (index_of (encoding p) sent) (λ index. moves clock a (comes_to a index)))))
      by_plan None = inl refl
      by_plan (Some m) = by_place (index_of (encoding p) sent)

      by_answer : (answer : Admit) → AtMostOne (Of name Gives) (without_waits (if_admitted answer (if_plan (plan_in p.id p.payload) (if_sent (index_of (encoding p) sent) (λ index. moves clock a (comes_to a index))))))
      by_answer Admitted = by_plan (plan_in p.id p.payload)
      by_answer Unsigned = inl refl
      by_answer BadSignature = inl refl
      by_answer (BelowFloor floor) = inl refl
      by_answer (NotLater last) = inl refl
      by_answer (TooOld local) = inl refl
      by_answer TooManyStreams = inl refl

  -- and if it is of the mission protocol, nothing is said
  hears_one : (clock : ℕ) (sent : List Packet) (a : Node) (p : Packet) (name : Name) → node_of (link_of a).me ≡ name → HearsOne name (without_waits (hearing clock sent a p ++ spoken_in a (node_hears clock p a)))
  hears_one clock sent a p name is = by_plan (plan_in p.id p.payload) refl
    where
      -- the frame as an event
      comes : Option PlanMsg → List world.Event
      comes o = if_admitted (answer_to (link_of a).key (link_of a).history p) (if_plan o (if_sent (index_of (encoding p) sent) (λ index. moves clock a (comes_to a index))))

      nothing : (answer : Admit) → if_admitted answer [] ≡ []
      nothing Admitted = refl
      nothing Unsigned = refl
      nothing BadSignature = refl
      nothing (BelowFloor floor) = refl
      nothing (NotLater last) = refl
      nothing (TooOld local) = refl
      nothing TooManyStreams = refl

      by_plan : (o : Option PlanMsg) → plan_in p.id p.payload ≡ o → HearsOne name (without_waits (hearing clock sent a p ++ spoken_in a (node_hears clock p a)))
      by_plan None e =
          let alone : hearing clock sent a p ≡ [] = ap comes e ∙ nothing (answer_to (link_of a).key (link_of a).history p) in
          inr (subst (λ es. EachEvent (Of name Talks) (without_waits (es ++ spoken_in a (node_hears clock p a)))) (sym alone) (of_talks name a is (node_hears clock p a)))
      by_plan (Some m) e =
          inl (subst (λ es. AtMostOne (Of name Gives) (without_waits es)) (sym (ap (λ r. hearing clock sent a p ++ r) (plan_silent clock a p m e) ∙ append-nil (hearing clock sent a p))) (hearing_one clock sent a p name is))

  one_heard : (k : ℕ) (s : WorldState) (a : Node) (p : Packet) (name : Name) → (o : Outcome Node) → HearsOne name (without_waits (hearing s.clock s.sent a p ++ spoken_in a o)) → HearsOne name (main (hears_then number s k a p o (λ t b. [])))
  one_heard k s a p name None h = inl (inl refl)
  one_heard k s a p name (Some d) h = subst (λ es. HearsOne name (without_waits es)) (sym (append-nil (hearing s.clock s.sent a p ++ spoken a d.events))) h

  module _ (s : WorldState) (sound : Sound s) where
    delivered_one : (which : ℕ) (name : Name) (i : ℕ) (o : Option Packet) → slice_get s.sent i ≡ o → HearsOne name (main (delivered number s which name o))
    delivered_one which name i None e = inl (inl refl)
    delivered_one which name i (Some p) e =
        at_placed_node (HearsOne name) s name (datagram_heard number (encoding p)) (inl (inl refl))
        (λ k a there is.
        let alone : frames_of (final_parse (link_of a).extras false (encoding p)) ≡ p ∷ [] =
        ap (λ extras. frames_of (final_parse extras false (encoding p))) (sound.links k a there).extras ∙ (heard_is s sound p (sound.sent i p e)).frames in
        subst (λ ps. HearsOne name (main (frames_heard number k ps s a))) (sym alone) (one_heard k s a p name (node_hears s.clock p a) (hears_one s.clock s.sent a p name is)))

    pub every_delivery : (which : ℕ) (node : Name) → HearsOne node (main (calls_of number s (line.Deliver which node)))
    every_delivery which node = delivered_one which node (which - 1) (slice_get s.sent (which - 1)) refl

    pub every_tick : (node : Name) → TicksAtMost 2 node (main (calls_of number s (line.Tick node)))
    every_tick node =
        at_placed_node (TicksAtMost 2 node) s node (ticked number) (inl refl)
        (λ k a there is.
        acts_one (TicksAtMost 2 node) number (moves s.clock a (ticks a) ++ spoken_in a (node_ticks s.clock a)) [] (node_does s k (node_name a) (node_ticks s.clock a)) (inl refl)
        (inr (ticks_soundly s.clock node a (sound.cores k a there) is)))
