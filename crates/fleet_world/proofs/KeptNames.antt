-- What a node does leaves its name, and a drone's system.
use Rattle.std.proofs.Common.{◌≡◌, ℕ, Bool, true, false, if◌then◌else◌, List, [], ◌∷◌, Option, Some, None, refl, ◌∙◌}
use Rattle.mav_names.specs.declared.names.Stream.{Stream}
use Rattle.plan_items.specs.declared.messages.PlanMsg.{PlanMsg}
use Rattle.mav_frame.specs.Packet.{Packet, SignatureBlock}
use Rattle.mav_frame.specs.FinalParse.{final_parse}
use Rattle.mav_messages.specs.declared.messages.Message.{Message}
use Rattle.mav_messages.specs.Plans.{message_of_plan}
use Rattle.mav_sign.specs.declared.admission.Admit.{Admit}
use Rattle.mav_sign.specs.declared.admission.Admit.TheVariants.{Admitted, Unsigned, BadSignature, BelowFloor, NotLater, TooOld, TooManyStreams}
use Rattle.mav_sign.specs.History.{stream_of, answer_to}
use Rattle.mav_sign.specs.Endpoints.{frames_of}
use Rattle.drone_sim.specs.Sim.{armed}
use Rattle.mav_nodes.specs.Payloads.{plan_in, service_in}
use Rattle.mav_nodes.specs.FileServices.{begins, file_order}
use Rattle.mav_nodes.specs.Services.{ServiceStep, StationServices, drone_flies, station_waits, asks_command, asks_params, asks_file, command_of}
use Rattle.command_proto.specs.Commander.{commands}
use Rattle.param_proto.specs.Client.{reads, sets, lists}
use Rattle.mav_nodes.specs.News.{NodeEvent}
use Rattle.mav_nodes.specs.Links.{Link, Outcome, done, after_events, and_then, tries, sends, sends_all}
use Rattle.mav_nodes.specs.Steps.{Side, Rules, CoreStep, answers, with_core, steps, serves, serves_if, takes, admits, hears, hears_all, receives}
use Rattle.mav_nodes.specs.Nodes.{DroneSide, StationSide, drone_rules, drone_receives, drone_beats, drone_ticks, drone_sims, drone_heartbeat, drone_waits, station_rules, station_receives, station_beats, station_ticks, station_heartbeat, services_tick, station_does, station_obeys}
use Rattle.mav_nodes.specs.declared.orders.Order.{Order}
use Rattle.mav_nodes.specs.declared.orders.Order.TheVariants.{Begin, Cancel, Clear, Get, Command, ParamRead, ParamSet, ParamList, File}
use Rattle.plan_items.specs.Kinds.{number_of}
use Rattle.plan_items.specs.Plans.{items_of}
use Rattle.plan_upload.specs.Kinds.{clear_number}
use Rattle.plan_upload.specs.Drone.{DroneState, drone_tick}
use Rattle.plan_upload.specs.Station.{StationState, station_tick, station_cancel, begin_upload, begin_clear, begin_get}
use Rattle.fleet_world.proofs.Systems.{drone_stays, drone_tick_stays}

-- if it is done, the link has that stream
abbrev LinkKeeps : Stream → Outcome Link → Type 0
LinkKeeps me None = Unit {0}
LinkKeeps me (Some d) = d.node.me ≡ me

-- the node's link has it, and its core is of that system
abbrev pub SideKeeps : {Core Services : Type 0} → (Core → ℕ) → Stream → ℕ → Outcome (Side Core Services) → Type 0
SideKeeps of me sys None = Unit {0}
SideKeeps of me sys (Some d) = (d.node.link.me ≡ me) × (of d.node.core ≡ sys)

sends-if : (test : Bool) (link new : Link) (events : List NodeEvent) → new.me ≡ link.me → LinkKeeps link.me (if test then None else done new events)
sends-if true link new events e = tt
sends-if false link new events e = e

sends-keep : (clock : ℕ) (message : Message) (link : Link) → LinkKeeps link.me (sends clock message link)
sends-keep clock message link = sends-if _ link _ _ refl

answers-keep : (clock : ℕ) (answer : Option PlanMsg) (link : Link) → LinkKeeps link.me (answers clock answer link)
answers-keep clock None link = refl
answers-keep clock (Some message) link = sends-keep clock (message_of_plan message) link

links-keep : (me : Stream) (o : Outcome Link) (next : Link → Outcome Link) → LinkKeeps me o → ((link : Link) → LinkKeeps link.me (next link)) → LinkKeeps me (and_then o next)
links-keep me None next h rest = tt
links-keep me (Some d) next h rest = moved (next d.node) (rest d.node)
  where
    moved : (o : Outcome Link) → LinkKeeps d.node.me o → LinkKeeps me (after_events d.events o)
    moved None k = tt
    moved (Some e) k = k ∙ h

sends_all-keep : (clock : ℕ) (messages : List Message) (link : Link) → LinkKeeps link.me (sends_all clock messages link)
sends_all-keep clock [] link = refl
sends_all-keep clock (message ∷ messages) link =
    links-keep link.me (sends clock message link) (sends_all clock messages) (sends-keep clock message link) (sends_all-keep clock messages)

module _ {Core Services : Type 0} (of : Core → ℕ) where
  with_core-keep : (me : Stream) (sys : ℕ) (core : Core) (services : Services) (last : List NodeEvent) (o : Outcome Link) → LinkKeeps me o → of core ≡ sys → SideKeeps of me sys (with_core core services last o)
  with_core-keep me sys core services last None h e = tt
  with_core-keep me sys core services last (Some d) h e = (h, e)

  behind-keep : (me : Stream) (sys : ℕ) (events : List NodeEvent) (o : Outcome (Side Core Services)) → SideKeeps of me sys o → SideKeeps of me sys (after_events events o)
  behind-keep me sys events None h = tt
  behind-keep me sys events (Some d) h = h

  steps-keep : (clock : ℕ) (link : Link) (services : Services) (sys : ℕ) (step : CoreStep Core) → of step.core ≡ sys → SideKeeps of link.me sys (steps clock link services step)
  steps-keep clock link services sys step e =
      behind-keep link.me sys step.first _ (with_core-keep link.me sys step.core services step.last _ (answers-keep clock step.answer link) e)

  serves-keep : (clock : ℕ) (link : Link) (core : Core) (step : ServiceStep Services) → SideKeeps of link.me (of core) (serves clock link core step)
  serves-keep clock link core step = with_core-keep link.me (of core) core step.services step.last _ (sends_all-keep clock step.answers link) refl

  and_then-keep : (me : Stream) (sys : ℕ) (first : Outcome (Side Core Services)) (next : Side Core Services → Outcome (Side Core Services)) → SideKeeps of me sys first → ((node : Side Core Services) → SideKeeps of node.link.me (of node.core) (next node)) → SideKeeps of me sys (and_then first next)
  and_then-keep me sys None next h rest = tt
  and_then-keep me sys (Some d) next h rest = behind-keep me sys d.events (next d.node) (moved (next d.node) (rest d.node))
    where
      moved : (o : Outcome (Side Core Services)) → SideKeeps of d.node.link.me (of d.node.core) o → SideKeeps of me sys o
      moved None k = tt
      moved (Some e) k = (k.0 ∙ h.0, k.1 ∙ h.1)

  module _ (rules : Rules Core Services) (clock : ℕ) (stays : (core : Core) (from : Stream) (message : PlanMsg) → of (rules.take core from message).core ≡ of core) where
    serves_if-keep : (node : Side Core Services) (from : Stream) (message : Option Message) → SideKeeps of node.link.me (of node.core) (serves_if rules clock node from message)
    serves_if-keep node from None = (refl, refl)
    serves_if-keep node from (Some message) = serves-keep clock node.link node.core (rules.serve node.core node.services from message)

    takes-keep : (node : Side Core Services) (from : Stream) (message : Option PlanMsg) (other : Option Message) → SideKeeps of node.link.me (of node.core) (takes rules clock node from message other)
    takes-keep node from None other = serves_if-keep node from other
    takes-keep node from (Some message) other = steps-keep clock node.link (rules.note node.services (rules.take node.core from message).first) (of node.core) (rules.take node.core from message) (stays node.core from message)

    admits-keep : (node : Side Core Services) (packet : Packet) (answer : Admit) (block : Option SignatureBlock) → SideKeeps of node.link.me (of node.core) (admits rules clock node packet answer block)
    admits-keep node packet Admitted (Some block) = takes-keep node (stream_of packet block) (plan_in packet.id packet.payload) (service_in packet.id packet.payload)
    admits-keep node packet Admitted None = (refl, refl)
    admits-keep node packet Unsigned block = (refl, refl)
    admits-keep node packet BadSignature block = (refl, refl)
    admits-keep node packet (BelowFloor floor) block = (refl, refl)
    admits-keep node packet (NotLater last) block = (refl, refl)
    admits-keep node packet (TooOld local) block = (refl, refl)
    admits-keep node packet TooManyStreams block = (refl, refl)

    hears-keep : (packet : Packet) (node : Side Core Services) → SideKeeps of node.link.me (of node.core) (hears rules clock packet node)
    hears-keep packet node = admits-keep (record node { link = tries packet node.link }) packet (answer_to node.link.key node.link.history packet) packet.block

    hears_all-keep : (packets : List Packet) (node : Side Core Services) → SideKeeps of node.link.me (of node.core) (hears_all rules clock packets node)
    hears_all-keep [] node = (refl, refl)
    hears_all-keep (packet ∷ packets) node =
        and_then-keep node.link.me (of node.core) (hears rules clock packet node) (hears_all rules clock packets) (hears-keep packet node) (hears_all-keep packets)

    receives-keep : (datagram : List ℕ) (node : Side Core Services) → SideKeeps of node.link.me (of node.core) (receives rules clock datagram node)
    receives-keep datagram node = hears_all-keep (frames_of (final_parse node.link.extras false datagram)) node

-- ---- drones and stations

abbrev pub sys_of : DroneState → ℕ
sys_of d = d.sys

-- stations have no system of their own beside their names
abbrev none_of : StationState → ℕ
none_of s = 0

pub drone_receiving : (clock : ℕ) (datagram : List ℕ) (n : DroneSide) → SideKeeps sys_of n.link.me n.core.sys (drone_receives clock datagram n)
drone_receiving clock datagram n = receives-keep sys_of drone_rules clock (λ core from message. drone_stays true from core message) datagram n

pub drone_beating : (clock : ℕ) (n : DroneSide) → SideKeeps sys_of n.link.me n.core.sys (drone_beats clock n)
drone_beating clock n = with_core-keep sys_of n.link.me n.core.sys n.core n.services [] _ (sends-keep clock (drone_heartbeat (armed n.services.sim)) n.link) refl

pub drone_ticking : (clock : ℕ) (n : DroneSide) → SideKeeps sys_of n.link.me n.core.sys (drone_ticks clock n)
drone_ticking clock n = steps-keep sys_of clock n.link n.services n.core.sys (drone_waits (drone_tick n.core)) (drone_tick_stays n.core)

pub drone_simming : (clock : ℕ) (n : DroneSide) → SideKeeps sys_of n.link.me n.core.sys (drone_sims clock n)
drone_simming clock n = serves-keep sys_of clock n.link n.core (drone_flies n.core n.services)

-- what a station's call leaves
abbrev pub StationKeeps : StationSide → Outcome StationSide → Type 0
StationKeeps n outcome = SideKeeps none_of n.link.me 0 outcome

pub station_receiving : (clock : ℕ) (datagram : List ℕ) (n : StationSide) → StationKeeps n (station_receives clock datagram n)
station_receiving clock datagram n = receives-keep none_of station_rules clock (λ core from message. refl) datagram n

pub station_beating : (clock : ℕ) (n : StationSide) → StationKeeps n (station_beats clock n)
station_beating clock n = with_core-keep none_of n.link.me 0 n.core n.services [] _ (sends-keep clock station_heartbeat n.link) refl

pub station_ticking : (clock : ℕ) (n : StationSide) → StationKeeps n (station_ticks clock n)
station_ticking clock n =
    and_then-keep none_of n.link.me 0 (steps clock n.link n.services (station_does (station_tick n.core))) (services_tick clock)
    (steps-keep none_of clock n.link n.services 0 (station_does (station_tick n.core)) refl) (λ node. serves-keep none_of clock node.link node.core (station_waits node.services))

-- a step of its core, and one of its services
step_keeps : (clock : ℕ) (n : StationSide) (step : CoreStep StationState) → StationKeeps n (steps clock n.link n.services step)
step_keeps clock n step = steps-keep none_of clock n.link n.services 0 step refl

service_keeps : (clock : ℕ) (n : StationSide) (step : ServiceStep StationServices) → StationKeeps n (serves clock n.link n.core step)
service_keeps clock n step = serves-keep none_of clock n.link n.core step

pub station_obeying : (clock : ℕ) (order : Order) (n : StationSide) → StationKeeps n (station_obeys clock order n)
station_obeying clock (Begin drone kind plan) n = step_keeps clock n (station_does (begin_upload n.core drone (number_of kind) (items_of plan)))
station_obeying clock Cancel n = step_keeps clock n (station_does (station_cancel n.core))
station_obeying clock (Clear drone kind) n = step_keeps clock n (station_does (begin_clear n.core drone (clear_number kind)))
station_obeying clock (Get drone kind) n = step_keeps clock n (station_does (begin_get n.core drone (number_of kind)))
station_obeying clock (Command drone number word) n = service_keeps clock n (asks_command n.services (commands n.services.commander drone (command_of number word)))
station_obeying clock (ParamRead drone id) n = service_keeps clock n (asks_params n.services (reads n.services.client drone id))
station_obeying clock (ParamSet drone param) n = service_keeps clock n (asks_params n.services (sets n.services.client drone param))
station_obeying clock (ParamList drone) n = service_keeps clock n (asks_params n.services (lists n.services.client drone))
station_obeying clock (File drone op) n = service_keeps clock n (asks_file n.services (begins n.services.files drone (file_order op)))
