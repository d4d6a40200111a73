-- What nodes say in a call, as events without waits: whose they are, and how many.
use Rattle.std.proofs.Common.{true, ◌≡◌, ℕ, suc, ◌≤◌, inl, inr, nat_lt, List, [], ◌∷◌, ◌++◌, length, Option, Some, None, IfSome, refl, sym, ap, subst, arith, ◌∙◌, length-append}
use Rattle.mav_names.specs.declared.names.Stream.{Stream}
use Rattle.mav_frame.specs.Packet.{Packet, SignatureBlock}
use Rattle.plan_items.specs.declared.messages.PlanMsg.{PlanMsg}
use Rattle.plan_upload.specs.Changes.{change_by}
use Rattle.plan_upload.specs.Drone.{DroneState, DroneStep, drone_step, drone_tick}
use Rattle.plan_upload.specs.Station.{StationState, StationStep, station_step, station_tick, untold}
use Rattle.plan_safety.specs.World as world
use Rattle.plan_safety.specs.World.{Begins, Clears, Gets, Cancels, Drone_ticks, Station_ticks, To_drone, To_station, Speaks, Drone_waits, Station_waits}
use Rattle.plan_safety.proofs.Keys.{by_test}
use Rattle.mav_messages.specs.declared.messages.Message.{Message}
use Rattle.mav_messages.specs.Plans.{plan_of}
use Rattle.mav_sign.specs.declared.admission.Admit.{Admit}
use Rattle.mav_sign.specs.declared.admission.Admit.TheVariants.{Admitted, Unsigned, BadSignature, BelowFloor, NotLater, TooOld, TooManyStreams}
use Rattle.mav_sign.specs.History.{next_in, answer_to, stream_of, greatest_stamp}
use Rattle.command_proto.specs.Commander.{commands, commander_tick}
use Rattle.param_proto.specs.Client.{lists, client_tick}
use Rattle.mav_nodes.specs.News.{NodeEvent, Sends, Installs, Empties, Drops, Ends, Ends_command, Gives_param, Ends_params, Reaches, Captures, Ends_file}
use Rattle.mav_nodes.specs.Links.{Link, Done, Outcome, after_events, and_then, tries, sends, sends_all, sent_at}
use Rattle.mav_nodes.specs.Payloads.{plan_in, service_in}
use Rattle.mav_nodes.specs.FileServices.{TransferStep, transfer_waits}
use Rattle.mav_nodes.specs.Services.{StationServices, station_waits, command_of, asks_command, asks_params}
use Rattle.mav_nodes.specs.Steps.{Side, Rules, CoreStep, answers, with_core, steps, takes, admits, hears}
use Rattle.mav_nodes.specs.Nodes.{DroneSide, StationSide, told_events, station_does, drone_rules, station_rules, drone_ticks, services_tick, station_ticks, station_commands, station_lists_params, tick_answer}
use Rattle.node_reports.specs.Nodes.{Node, Drone, Station}
use Rattle.node_reports.specs.Calls.{as_drone, as_station, node_ticks}
use Rattle.fleet_invariants.specs.Sound.{link_of}
use Rattle.fleet_invariants.proofs.Files.{says_few, tick_says, waits_idly}
use Rattle.fleet_safety.specs.Actions.{waits, speaks, speaks_all, spoken, spoken_in, node_hears}
use Rattle.fleet_safety.specs.Causes.{without_waits, AtMostOne, EachEvent, Talks}
use Rattle.fleet_safety.proofs.Services.{ends_aside, few_sent}
use Rattle.fleet_safety.proofs.Sendings.{packet_of}
use Rattle.fleet_safety.proofs.Spoken.{spoken_on, said, Unsaid, answers_unsaid}
use Rattle.fleet_safety.proofs.Drones.{changes_unspoken}
use Rattle.fleet_safety.proofs.Stations.{told_unspoken}

-- ---- lists of events

pub waits_on : (es fs : List world.Event) → without_waits (es ++ fs) ≡ without_waits es ++ without_waits fs
waits_on [] fs = refl
waits_on (Begins s d kind plan ∷ es) fs = ap (λ r. Begins s d kind plan ∷ r) (waits_on es fs)
waits_on (Clears s d kind ∷ es) fs = ap (λ r. Clears s d kind ∷ r) (waits_on es fs)
waits_on (Gets s d kind ∷ es) fs = ap (λ r. Gets s d kind ∷ r) (waits_on es fs)
waits_on (Cancels s ∷ es) fs = ap (λ r. Cancels s ∷ r) (waits_on es fs)
waits_on (world.Hands_out s ∷ es) fs = waits_on es fs
waits_on (Drone_ticks d ∷ es) fs = ap (λ r. Drone_ticks d ∷ r) (waits_on es fs)
waits_on (Station_ticks s ∷ es) fs = ap (λ r. Station_ticks s ∷ r) (waits_on es fs)
waits_on (To_drone index d keeps ∷ es) fs = ap (λ r. To_drone index d keeps ∷ r) (waits_on es fs)
waits_on (To_station index s ∷ es) fs = ap (λ r. To_station index s ∷ r) (waits_on es fs)
waits_on (Speaks node ∷ es) fs = ap (λ r. Speaks node ∷ r) (waits_on es fs)
waits_on (world.Drone_waits d t ∷ es) fs = waits_on es fs
waits_on (world.Station_waits s t ∷ es) fs = waits_on es fs
waits_on (world.Restarts d low ∷ es) fs = ap (λ r. world.Restarts d low ∷ r) (waits_on es fs)

pub each_on : (P : world.Event → Type 0) (es fs : List world.Event) → EachEvent P es → EachEvent P fs → EachEvent P (es ++ fs)
each_on P [] fs a b = b
each_on P (e ∷ es) fs a b = (a.0, each_on P es fs a.1 b)

pub each_maps : (P Q : world.Event → Type 0) → ((e : world.Event) → P e → Q e) → (es : List world.Event) → EachEvent P es → EachEvent Q es
each_maps P Q f [] h = tt
each_maps P Q f (e ∷ es) h = (f e h.0, each_maps P Q f es h.1)

pub at_most_one : (P : world.Event → Type 0) (es : List world.Event) → EachEvent P es → length es ≤ 1 → AtMostOne P es
at_most_one P [] h few = inl refl
at_most_one P (e ∷ []) h few = inr (e, refl, h.0)
at_most_one P (e ∷ d ∷ es) h few = absurd (omega (arith, few))

-- ---- whose they are

one_talks : (a : Node) (p : Packet) (o : Option PlanMsg) (me : Stream) → (link_of a).me ≡ me → EachEvent (Talks me) (without_waits (speaks (waits a) (link_of a).me p o))
one_talks (Drone a) p None me h = (ap Speaks h, tt)
one_talks (Drone a) p (Some m) me h = tt
one_talks (Station a) p None me h = (ap Speaks h, tt)
one_talks (Station a) p (Some m) me h = tt

pub spoken_talks : (a : Node) (me : Stream) → (link_of a).me ≡ me → (es : List NodeEvent) → EachEvent (Talks me) (without_waits (spoken a es))
spoken_talks a me h [] = tt
spoken_talks a me h (Sends p m ∷ es) =
    subst (EachEvent (Talks me)) (sym (waits_on (speaks (waits a) (link_of a).me p (plan_of m)) (spoken a es)))
    (each_on (Talks me) (without_waits (speaks (waits a) (link_of a).me p (plan_of m))) (without_waits (spoken a es)) (one_talks a p (plan_of m) me h) (spoken_talks a me h es))
spoken_talks a me h (Installs kind items by ∷ es) = spoken_talks a me h es
spoken_talks a me h (Empties kind ∷ es) = spoken_talks a me h es
spoken_talks a me h (Drops answer ∷ es) = spoken_talks a me h es
spoken_talks a me h (Ends told ∷ es) = spoken_talks a me h es
spoken_talks a me h (Ends_command result ∷ es) = spoken_talks a me h es
spoken_talks a me h (Gives_param param ∷ es) = spoken_talks a me h es
spoken_talks a me h (Ends_params values ∷ es) = spoken_talks a me h es
spoken_talks a me h (Reaches number ∷ es) = spoken_talks a me h es
spoken_talks a me h (Captures total ∷ es) = spoken_talks a me h es
spoken_talks a me h (Ends_file end ∷ es) = spoken_talks a me h es

pub outcome_talks : (a : Node) (me : Stream) → (link_of a).me ≡ me → (o : Outcome Node) → EachEvent (Talks me) (without_waits (spoken_in a o))
outcome_talks a me h None = tt
outcome_talks a me h (Some d) = spoken_talks a me h d.events

-- ---- how many they are

-- no more than so many, in a call that is done
abbrev pub Few : {A : Type 0} → (ℕ → world.Event) → Stream → ℕ → Outcome A → Type 0
Few wait me most o = length (without_waits (said wait me o)) ≤ most

-- a wait is no event of its own
pub record IsWait (wait : ℕ → world.Event) (me : Stream) : Type 0 where
  pub one : (p : Packet) (o : Option PlanMsg) → length (without_waits (speaks wait me p o)) ≤ 1

pub drone_wait : (me : Stream) → IsWait (Drone_waits me) me
drone_wait me = record { one = one }
  where
    one : (p : Packet) (o : Option PlanMsg) → length (without_waits (speaks (Drone_waits me) me p o)) ≤ 1
    one p None = omega arith
    one p (Some m) = omega arith

pub station_wait : (me : Stream) → IsWait (Station_waits me) me
station_wait me = record { one = one }
  where
    one : (p : Packet) (o : Option PlanMsg) → length (without_waits (speaks (Station_waits me) me p o)) ≤ 1
    one p None = omega arith
    one p (Some m) = omega arith

module _ {Core Services : Type 0} (wait : ℕ → world.Event) (me : Stream) (is_wait : IsWait wait me) (core : Core) (services : Services) (last : List NodeEvent) (unspoken : speaks_all wait me last ≡ []) (clock : ℕ) where
  -- one message more
  one_more : (p : Packet) (m : Message) (es : List NodeEvent) (most : ℕ) → length (without_waits (speaks_all wait me es)) ≤ most → length (without_waits (speaks_all wait me (Sends p m ∷ es))) ≤ suc most
  one_more p m es most h =
      let both = ap length (waits_on (speaks wait me p (plan_of m)) (speaks_all wait me es)) ∙ length-append (without_waits (speaks wait me p (plan_of m))) (without_waits (speaks_all wait me es)) in
      let first = is_wait.one p (plan_of m) in
      omega (arith, both, first, h)

  none_last : (most : ℕ) → length (without_waits (speaks_all wait me last)) ≤ most
  none_last most = subst (λ es. length (without_waits es) ≤ most) (sym unspoken) (omega arith)

  pub sends_few : (m : Message) (link : Link) → Few wait me 1 (with_core core services last (sends clock m link))
  sends_few m link =
      by_test (λ o. Few wait me 1 (with_core core services last o)) (nat_lt greatest_stamp (next_in link.history clock)) _ _ (λ _. omega arith)
      (λ _. one_more (packet_of link clock m) m last 0 (none_last 0))

  pub all_few : (ms : List Message) (link : Link) → Few wait me (length ms) (with_core core services last (sends_all clock ms link))
  all_few [] link = none_last 0
  all_few (m ∷ ms) link =
      by_test (λ o. Few wait me (suc (length ms)) (with_core core services last (and_then o (sends_all clock ms)))) (nat_lt greatest_stamp (next_in link.history clock)) _ _ (λ _. omega arith)
      (λ _. more (sends_all clock ms (sent_at (next_in link.history clock) link)) (all_few ms (sent_at (next_in link.history clock) link)))
    where
      more : (o : Outcome Link) → Few wait me (length ms) (with_core core services last o) → Few wait me (suc (length ms)) (with_core core services last (after_events (Sends (packet_of link clock m) m ∷ []) o))
      more None h = omega arith
      more (Some d) h = one_more (packet_of link clock m) m (d.events ++ last) (length ms) h

-- ---- a message of the mission protocol, and a drone's tick: nothing is said

module _ {Core Services : Type 0} (wait : ℕ → world.Event) (me : Stream) (rules : Rules Core Services) (plain : (core : Core) (from : Stream) (m : PlanMsg) → (speaks_all wait me (rules.take core from m).first ≡ []) × (speaks_all wait me (rules.take core from m).last ≡ [])) (clock : ℕ) where
  taken_unsaid : (a : Side Core Services) (from : Stream) (m : PlanMsg) (s : Option Message) → Unsaid wait me (takes rules clock a from (Some m) s)
  taken_unsaid a from m s =
      let step : CoreStep Core = rules.take a.core from m in
      let h = plain a.core from m in
      answers_unsaid wait me clock step.first step.last step.core (rules.note a.services step.first) step.answer a.link h.0 h.1

  admits_unsaid : (a : Side Core Services) (p : Packet) (m : PlanMsg) → plan_in p.id p.payload ≡ Some m → (answer : Admit) (block : Option SignatureBlock) → Unsaid wait me (admits rules clock a p answer block)
  admits_unsaid a p m e Admitted None = refl
  admits_unsaid a p m e Admitted (Some block) =
      subst (λ o. Unsaid wait me (takes rules clock a (stream_of p block) o (service_in p.id p.payload))) (sym e) (taken_unsaid a (stream_of p block) m (service_in p.id p.payload))
  admits_unsaid a p m e Unsigned block = refl
  admits_unsaid a p m e BadSignature block = refl
  admits_unsaid a p m e (BelowFloor floor) block = refl
  admits_unsaid a p m e (NotLater last) block = refl
  admits_unsaid a p m e (TooOld local) block = refl
  admits_unsaid a p m e TooManyStreams block = refl

  hears_unsaid : (a : Side Core Services) (p : Packet) (m : PlanMsg) → plan_in p.id p.payload ≡ Some m → Unsaid wait me (hears rules clock p a)
  hears_unsaid a p m e = admits_unsaid (record a { link = tries p a.link }) p m e (answer_to a.link.key a.link.history p) p.block

drone_silent : (a : DroneSide) (o : Outcome DroneSide) → Unsaid (Drone_waits a.link.me) a.link.me o → spoken_in (Drone a) (as_drone o) ≡ []
drone_silent a None h = refl
drone_silent a (Some d) h = h

station_silent : (a : StationSide) (o : Outcome StationSide) → Unsaid (Station_waits a.link.me) a.link.me o → spoken_in (Station a) (as_station o) ≡ []
station_silent a None h = refl
station_silent a (Some d) h = h

pub plan_silent : (clock : ℕ) (a : Node) (p : Packet) (m : PlanMsg) → plan_in p.id p.payload ≡ Some m → spoken_in a (node_hears clock p a) ≡ []
plan_silent clock (Drone a) p m e = drone_silent a (hears drone_rules clock p a) (hears_unsaid (Drone_waits a.link.me) a.link.me drone_rules plain clock a p m e)
  where
    plain : (core : DroneState) (from : Stream) (m : PlanMsg) → (speaks_all (Drone_waits a.link.me) a.link.me (drone_rules.take core from m).first ≡ []) × (speaks_all (Drone_waits a.link.me) a.link.me (drone_rules.take core from m).last ≡ [])
    plain core from m = let step : DroneStep = drone_step true core from m in (changes_unspoken (Drone_waits a.link.me) a.link.me from step.drone.plans (change_by step.event), refl)
plan_silent clock (Station a) p m e = station_silent a (hears station_rules clock p a) (hears_unsaid (Station_waits a.link.me) a.link.me station_rules plain clock a p m e)
  where
    plain : (core : StationState) (from : Stream) (m : PlanMsg) → (speaks_all (Station_waits a.link.me) a.link.me (station_rules.take core from m).first ≡ []) × (speaks_all (Station_waits a.link.me) a.link.me (station_rules.take core from m).last ≡ [])
    plain core from m = (refl, told_unspoken (Station_waits a.link.me) a.link.me (station_step core from m).station.outcome)

pub drone_ticks_silent : (clock : ℕ) (a : DroneSide) → spoken_in (Drone a) (node_ticks clock (Drone a)) ≡ []
drone_ticks_silent clock a =
    let t = drone_tick a.core in
    drone_silent a (drone_ticks clock a) (answers_unsaid (Drone_waits a.link.me) a.link.me clock [] [] t.drone a.services (tick_answer t.answer) a.link refl refl)

-- ---- calls of a node

pub drone_few : (a : DroneSide) (o : Outcome DroneSide) (most : ℕ) → Few (Drone_waits a.link.me) a.link.me most o → length (without_waits (spoken_in (Drone a) (as_drone o))) ≤ most
drone_few a None most h = h
drone_few a (Some d) most h = h

pub station_few : (a : StationSide) (o : Outcome StationSide) (most : ℕ) → Few (Station_waits a.link.me) a.link.me most o → length (without_waits (spoken_in (Station a) (as_station o))) ≤ most
station_few a None most h = h
station_few a (Some d) most h = h

-- at a station's tick its services send no more than they do in a state of that kind
ticks_at_most : (Kind : StationServices → Type 0) (most : ℕ) → ((v : StationServices) → Kind v → length (station_waits v).answers ≤ most) → (clock : ℕ) (a : StationSide) → Kind a.services
    → length (without_waits (spoken_in (Station a) (node_ticks clock (Station a)))) ≤ most
ticks_at_most Kind most few clock a kind =
    station_few a (station_ticks clock a) most
    (first (steps clock a.link a.services (station_does t)) (answers_unsaid wait me clock [] (told_events t.station.outcome) (untold t.station) a.services t.answer a.link refl (told_unspoken wait me t.station.outcome))
    (same (answers clock t.answer a.link)))
  where
    me : Stream
    me = a.link.me

    wait : ℕ → world.Event
    wait = Station_waits a.link.me

    t : StationStep
    t = station_tick a.core

    -- the core's step leaves the services
    same : (o : Outcome Link) → IfSome (after_events [] (with_core (untold t.station) a.services (told_events t.station.outcome) o)) (λ (d : Done StationSide). Kind d.node.services)
    same None = tt
    same (Some d) = kind

    then_few : (es : List NodeEvent) → speaks_all (Station_waits a.link.me) a.link.me es ≡ [] → (o : Outcome StationSide) → Few (Station_waits a.link.me) a.link.me most o → Few (Station_waits a.link.me) a.link.me most (after_events es o)
    then_few es h None k = omega arith
    then_few es h (Some d) k =
        subst (λ fs. length (without_waits fs) ≤ most) (sym (spoken_on (Station_waits a.link.me) a.link.me es d.events ∙ ap (λ r. r ++ speaks_all (Station_waits a.link.me) a.link.me d.events) h)) k

    first : (o : Outcome StationSide) → Unsaid (Station_waits a.link.me) a.link.me o → IfSome o (λ (d : Done StationSide). Kind d.node.services) → Few (Station_waits a.link.me) a.link.me most (and_then o (services_tick clock))
    first None h k = omega arith
    first (Some d) h k =
        let v = d.node.services in
        let step = station_waits v in
        let unspoken = (ends_aside (commander_tick v.commander) (client_tick v.client) (transfer_waits v.files)).unspoken (Station_waits a.link.me) a.link.me in
        let all = all_few (Station_waits a.link.me) a.link.me (station_wait a.link.me) d.node.core step.services step.last unspoken clock step.answers d.node.link in
        let sent = few v k in
        then_few d.events h (services_tick clock d.node) (omega (arith, all, sent))

-- each service sends one message at most
pub station_ticks_few : (clock : ℕ) (a : StationSide) → length (without_waits (spoken_in (Station a) (node_ticks clock (Station a)))) ≤ 3
station_ticks_few clock a = ticks_at_most (λ v. Unit {0}) 3 three clock a tt
  where
    three : (v : StationServices) → Unit {0} → length (station_waits v).answers ≤ 3
    three v h =
        let sent = few_sent (commander_tick v.commander) (client_tick v.client) (transfer_waits v.files) in
        let one = says_few (transfer_waits v.files).answers (tick_says v.files) in
        omega (arith, sent, one)

-- and nothing of files, if none is transferred
pub idle_ticks_few : (clock : ℕ) (a : StationSide) → a.services.files.transfer.operation ≡ None → length (without_waits (spoken_in (Station a) (node_ticks clock (Station a)))) ≤ 2
idle_ticks_few clock a = ticks_at_most (λ v. v.files.transfer.operation ≡ None) 2 two clock a
  where
    two : (v : StationServices) → v.files.transfer.operation ≡ None → length (station_waits v).answers ≤ 2
    two v idle =
        let sent = few_sent (commander_tick v.commander) (client_tick v.client) (transfer_waits v.files) in
        let none = ap (λ (f : TransferStep). length f.answers) (waits_idly v.files idle) in
        omega (arith, sent, none)

-- a station's orders to its services
pub commands_few : (clock : ℕ) (drone : Stream) (which word : ℕ) (a : StationSide) → Few (Station_waits a.link.me) a.link.me 1 (station_commands clock drone which word a)
commands_few clock drone which word a =
    let step = asks_command a.services (commands a.services.commander drone (command_of which word)) in
    all_few (Station_waits a.link.me) a.link.me (station_wait a.link.me) a.core step.services [] refl clock step.answers a.link

pub params_few : (clock : ℕ) (drone : Stream) (a : StationSide) → Few (Station_waits a.link.me) a.link.me 1 (station_lists_params clock drone a)
params_few clock drone a =
    let step = asks_params a.services (lists a.services.client drone) in
    all_few (Station_waits a.link.me) a.link.me (station_wait a.link.me) a.core step.services [] refl clock step.answers a.link
