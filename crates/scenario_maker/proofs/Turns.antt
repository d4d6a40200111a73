-- What one node sends in a call, and what it leaves: the frames count for no more than the node's uploads that may end, and one
-- message.
use Rattle.std.proofs.Common.{◌≡◌, ◌∙◌, ℕ, ◌+◌, ◌*◌, ◌≤◌, true, false, nat_lt, List, [], ◌∷◌, ◌++◌, Option, Some, None, IfSome, is_some, refl, sym, ap, subst, arith}
use Rattle.std.proofs.lemmas.List.{append-nil}
use Rattle.mav_names.specs.declared.names.Stream.{Stream}
use Rattle.mav_profile.specs.Messages.{extras_of}
use Rattle.mav_profile.specs.Profile.{profile_definitions}
use Rattle.mav_frame.specs.Packet.{Packet, SignatureBlock}
use Rattle.mav_frame.specs.Encoding.{encoding}
use Rattle.mav_frame.specs.FinalParse.{final_parse}
use Rattle.plan_items.specs.declared.messages.PlanMsg.{PlanMsg}
use Rattle.plan_upload.specs.Addresses.{same_name, everyone}
use Rattle.plan_upload.specs.declared.changes.Change.{Change}
use Rattle.plan_upload.specs.declared.changes.Change.TheVariants.{Same, Install, Empty}
use Rattle.plan_upload.specs.Changes.{change_by}
use Rattle.plan_upload.specs.Heard.{is_heard}
use Rattle.plan_upload.specs.Plans.{Plans}
use Rattle.plan_upload.specs.Drone.{DroneState, drone_step, drone_tick}
use Rattle.plan_upload.specs.Station.{StationState, StationStep, Told, addressee, station_step, station_tick}
use Rattle.mav_messages.specs.declared.messages.Message.{Message}
use Rattle.mav_messages.specs.Plans.{message_of_plan, plan_of}
use Rattle.mav_sign.specs.declared.admission.Admit.{Admit}
use Rattle.mav_sign.specs.declared.admission.Admit.TheVariants.{Admitted, Unsigned, BadSignature, BelowFloor, NotLater, TooOld, TooManyStreams}
use Rattle.mav_sign.specs.Endpoints.{frames_of}
use Rattle.mav_sign.specs.History.{answer_to, stream_of, next_in, greatest_stamp}
use Rattle.mav_nodes.specs.News.{NodeEvent, Sends, Installs, Empties, Drops, Ends, Ends_command, Gives_param, Ends_params, Reaches, Captures, Ends_file}
use Rattle.mav_nodes.specs.Payloads.{plan_in, service_in}
use Rattle.command_proto.specs.Commander.{issue_ticks, waits_on}
use Rattle.param_proto.specs.Client.{operation_ticks}
use Rattle.mav_nodes.specs.FileServices.{transfer_waits}
use Rattle.mav_nodes.specs.Services.{DroneServices, StationServices, drone_notes, station_served, station_waits}
use Rattle.mav_nodes.specs.Signed.{signed_packet}
use Rattle.mav_nodes.specs.Links.{Link, Done, Outcome, done, after_events, and_then, tries}
use Rattle.mav_nodes.specs.Steps.{Side, Rules, CoreStep, answers, with_core, steps, steps_noted, serves, takes, admits, hears, hears_all, receives}
use Rattle.mav_nodes.specs.Nodes.{DroneSide, StationSide, drone_core, drone_rules, drone_waits, change_events, station_rules, station_does, told_events, drone_ticks, services_tick}
use Rattle.node_reports.specs.Nodes.{Node, Drone, Station}
use Rattle.node_reports.specs.Calls.{as_drone, as_station, node_receives, node_ticks}
use Rattle.fleet_world.specs.Steps.{packets_in}
use Rattle.fleet_invariants.specs.Kept.{Reads, AllRead}
use Rattle.fleet_invariants.proofs.Files.{waits_idly}
use Rattle.fleet_invariants.proofs.Tests.{by_test}
use Rattle.scenario_maker.proofs.Weights.{cost, weigh, weight, AllCarry, opens, opens_in, cost_few, opens_few, carried_weight, carried_some}
use Rattle.scenario_maker.proofs.StationReplies.{one_if, station_fits}
use Rattle.scenario_maker.proofs.DroneReplies.{drone_fits}

-- ---- frames among events

packets_append : (es fs : List NodeEvent) → packets_in (es ++ fs) ≡ packets_in es ++ packets_in fs
packets_append [] fs = refl
packets_append (Sends packet message ∷ es) fs = ap (λ ps. packet ∷ ps) (packets_append es fs)
packets_append (Installs kind items by ∷ es) fs = packets_append es fs
packets_append (Empties kind ∷ es) fs = packets_append es fs
packets_append (Drops answer ∷ es) fs = packets_append es fs
packets_append (Ends told ∷ es) fs = packets_append es fs
packets_append (Ends_command result ∷ es) fs = packets_append es fs
packets_append (Gives_param param ∷ es) fs = packets_append es fs
packets_append (Ends_params values ∷ es) fs = packets_append es fs
packets_append (Reaches number ∷ es) fs = packets_append es fs
packets_append (Captures total ∷ es) fs = packets_append es fs
packets_append (Ends_file end ∷ es) fs = packets_append es fs

read_after : (es : List NodeEvent) (e : NodeEvent) (fs : List NodeEvent) → AllRead (es ++ e ∷ fs) → Reads e
read_after [] e fs h = h.0
read_after (x ∷ xs) e fs h = read_after xs e fs h.1

no_changes : (by : Stream) (plans : Plans) (change : Change) → packets_in (change_events by plans change) ≡ []
no_changes by plans Same = refl
no_changes by plans (Install kind) = refl
no_changes by plans (Empty None) = refl
no_changes by plans (Empty (Some kind)) = refl

no_told : (told : Option Told) → packets_in (told_events told) ≡ []
no_told None = refl
no_told (Some told) = refl

-- ---- a core's step

-- the core, the services and the frames after a step that replies so
pub record Steps {Core Services : Type 0} (core : Core) (services : Services) (answer : Option PlanMsg) (d : Done (Side Core Services)) : Type 0 where
  pub core_is : d.node.core ≡ core
  pub services_is : d.node.services ≡ services
  pub frames : AllRead d.events → (weigh (packets_in d.events) ≡ cost answer) × AllCarry (packets_in d.events)

-- no frame is sent
quiet : (es : List NodeEvent) → packets_in es ≡ [] → (weigh (packets_in es) ≡ 0) × AllCarry (packets_in es)
quiet es e = subst (λ ps. (weigh ps ≡ 0) × AllCarry ps) (sym e) (refl, tt)

-- one frame is sent, which reads back
one : (es : List NodeEvent) (q : Packet) (m : PlanMsg) → packets_in es ≡ q ∷ [] → plan_in q.id q.payload ≡ plan_of (message_of_plan m) → (weigh (packets_in es) ≡ cost (Some m)) × AllCarry (packets_in es)
one es q m e reads =
    subst (λ ps. (weigh ps ≡ cost (Some m)) × AllCarry ps) (sym e)
    (let w : weight (plan_in q.id q.payload) ≡ cost (Some m) = ap weight reads ∙ carried_weight m in (omega (arith, w), (ap is_some reads ∙ carried_some m, tt)))

-- the frames among a step's events
around : (first last : List NodeEvent) (q : Packet) (message : Message) → packets_in first ≡ [] → packets_in last ≡ [] → packets_in (first ++ (Sends q message ∷ last)) ≡ q ∷ []
around first last q message f l = packets_append first (Sends q message ∷ last) ∙ ap (λ ps. ps ++ (q ∷ packets_in last)) f ∙ ap (λ ps. q ∷ ps) l

between : (first last : List NodeEvent) → packets_in first ≡ [] → packets_in last ≡ [] → packets_in (first ++ last) ≡ []
between first last f l = packets_append first last ∙ ap (λ ps. ps ++ packets_in last) f ∙ l

module _ {Core Services : Type 0} (clock : ℕ) (services : Services) where
  by_answer : (step : CoreStep Core) (answer : Option PlanMsg) (link : Link) → packets_in step.first ≡ [] → packets_in step.last ≡ []
      → IfSome (after_events step.first (with_core step.core services step.last (answers clock answer link))) (Steps step.core services answer)
  by_answer step None link f l = record { core_is = refl; services_is = refl; frames = λ _. quiet (step.first ++ step.last) (between step.first step.last f l) }
  by_answer step (Some m) link f l =
      let q = signed_packet link.key link.extras link.me link.seq (next_in link.history clock) (message_of_plan m) in
      let e = Sends q (message_of_plan m) in
      by_test (λ (o : Outcome Link). IfSome (after_events step.first (with_core step.core services step.last o)) (Steps step.core services (Some m))) (nat_lt greatest_stamp (next_in link.history clock)) _ _
      (λ _. tt)
      (λ _. record {
        core_is = refl;
        services_is = refl;
        frames = λ read. one (step.first ++ e ∷ step.last) q m (around step.first step.last q (message_of_plan m) f l) (read_after step.first e step.last read);
      })

  pub steps_so : (link : Link) (step : CoreStep Core) → packets_in step.first ≡ [] → packets_in step.last ≡ [] → IfSome (steps clock link services step) (Steps step.core services step.answer)
  steps_so link step f l = by_answer step step.answer link f l

-- ---- a call of a node

-- a station's services ask for nothing
abbrev pub AskNothing : StationServices → Type 0
AskNothing v = (v.commander.issue ≡ None) × (v.client.operation ≡ None) × (v.files.transfer.operation ≡ None)

abbrev pub IsIdle : Node → Type 0
IsIdle (Drone n) = Unit {0}
IsIdle (Station n) = AskNothing n.services

-- what is left counts for `c` more at most
pub record Within (a : Node) (c : ℕ) (d : Done Node) : Type 0 where
  pub weighs : weigh (packets_in d.events) + 4 * opens d.node ≤ 4 * opens a + c
  pub carry : AllCarry (packets_in d.events)
  pub idle : IsIdle d.node

abbrev pub Turn : Node → ℕ → Outcome Node → Type 0
Turn a c o = IfSome o (λ d. AllRead d.events → Within a c d)

drone_turn : (a : Node) (core : DroneState) (services : DroneServices) (answer : Option PlanMsg) (c : ℕ) (o : Outcome DroneSide) → IfSome o (Steps core services answer) → cost answer ≤ 4 * opens a + c → Turn a c (as_drone o)
drone_turn a core services answer c None h few = tt
drone_turn a core services answer c (Some d) h few = λ read. let f = h.frames read in record { weighs = omega (arith, f.0, few); carry = f.1; idle = tt }

station_turn : (n : StationSide) (core : StationState) (answer : Option PlanMsg) (c : ℕ) (o : Outcome StationSide) → IsIdle (Station n) → IfSome o (Steps core n.services answer)
    → cost answer + 4 * opens_in core.operation ≤ 4 * opens_in n.core.operation + c → Turn (Station n) c (as_station o)
station_turn n core answer c None idle h few = tt
station_turn n core answer c (Some d) idle h few =
    λ read.
    let f = h.frames read in
    let now : opens_in d.node.core.operation ≡ opens_in core.operation = ap (λ (s : StationState). opens_in s.operation) h.core_is in
    record {
      weighs = omega (arith, f.0, now, few);
      carry = f.1;
      idle = subst AskNothing (sym h.services_is) idle;
    }

-- any step of a station, whatever it is, counts for 8 at most
pub any_step : (clock : ℕ) (n : StationSide) → IsIdle (Station n) → (r : StationStep) → Turn (Station n) 8 (as_station (steps clock n.link n.services (station_does r)))
any_step clock n idle r =
    let a = cost_few r.answer in
    let b = opens_few r.station.operation in
    station_turn n (station_does r).core r.answer 8 (steps clock n.link n.services (station_does r)) idle
    (steps_so clock n.services n.link (station_does r) refl (no_told r.station.outcome)) (omega (arith, a, b))

-- ---- a tick

-- what the services of a station do that ask for nothing
no_answers : (v : StationServices) → AskNothing v → station_waits v ≡ record { services = v; answers = []; last = [] }
no_answers v idle =
    ap (λ i. station_served (issue_ticks v.commander i) (operation_ticks v.client v.client.operation) (transfer_waits v.files)) idle.0
    ∙ ap (λ o. station_served (waits_on v.commander) (operation_ticks v.client o) (transfer_waits v.files)) idle.1
    ∙ ap (λ f. station_served (waits_on v.commander) (operation_ticks v.client None) f) (waits_idly v.files idle.2)

services_rest : (clock : ℕ) (n : StationSide) → IsIdle (Station n) → services_tick clock n ≡ done n []
services_rest clock n idle = ap (serves clock n.link n.core) (no_answers n.services idle)

then_rest : (clock : ℕ) (o : Outcome StationSide) → IfSome o (λ d. IsIdle (Station d.node)) → and_then o (services_tick clock) ≡ o
then_rest clock None idle = refl
then_rest clock (Some d) idle = ap (after_events d.events) (services_rest clock d.node idle) ∙ ap (done d.node) (append-nil d.events)

left_idle : (n : StationSide) (core : StationState) (answer : Option PlanMsg) (o : Outcome StationSide) → IsIdle (Station n) → IfSome o (Steps core n.services answer) → IfSome o (λ d. IsIdle (Station d.node))
left_idle n core answer None idle h = tt
left_idle n core answer (Some d) idle h = subst AskNothing (sym h.services_is) idle

pub ticks_turn : (clock : ℕ) (a : Node) → IsIdle a → Turn a 8 (node_ticks clock a)
ticks_turn clock (Drone n) idle =
    let step = drone_waits (drone_tick n.core) in
    let few = cost_few step.answer in
    drone_turn (Drone n) step.core n.services step.answer 8 (drone_ticks clock n) (steps_so clock n.services n.link step refl refl) (omega (arith, few))
ticks_turn clock (Station n) idle =
    let r = station_tick n.core in
    let o = steps clock n.link n.services (station_does r) in
    let so = steps_so clock n.services n.link (station_does r) refl (no_told r.station.outcome) in
    subst (λ x. Turn (Station n) 8 (as_station x)) (sym (then_rest clock o (left_idle n (station_does r).core r.answer o idle so))) (any_step clock n idle r)

-- ---- a frame that was sent

module _ (p : Packet) (m : PlanMsg) (alone : frames_of (final_parse (extras_of profile_definitions) false (encoding p)) ≡ p ∷ []) (plan : plan_in p.id p.payload ≡ Some m) where
  module _ {Core Services : Type 0} (rules : Rules Core Services) (clock : ℕ) (y : Side Core Services) (extras : y.link.extras ≡ extras_of profile_definitions) where
    after : Link
    after = tries p y.link

    -- what holds if the frame is dropped, and if its message is taken, holds of the datagram
    module _ (P : Outcome (Side Core Services) → Type 0)
        (dropped : (link : Link) (a : Admit) → P (done (record y { link = link }) (Drops a ∷ [])))
        (taken : (link : Link) (block : SignatureBlock) → P (steps_noted rules.note clock link y.services (rules.take y.core (stream_of p block) m))) where
      ends : (o : Outcome (Side Core Services)) → and_then o (hears_all rules clock []) ≡ o
      ends None = refl
      ends (Some d) = ap (done d.node) (append-nil d.events)

      by_plan : (link : Link) (block : SignatureBlock) → P (takes rules clock (record y { link = link }) (stream_of p block) (plan_in p.id p.payload) (service_in p.id p.payload))
      by_plan link block = subst (λ o. P (takes rules clock (record y { link = link }) (stream_of p block) o (service_in p.id p.payload))) (sym plan) (taken link block)

      by_block : (link : Link) (block : Option SignatureBlock) → P (admits rules clock (record y { link = link }) p Admitted block)
      by_block link None = dropped link Admitted
      by_block link (Some block) = by_plan link block

      by_verdict : (link : Link) (a : Admit) → P (admits rules clock (record y { link = link }) p a p.block)
      by_verdict link Admitted = by_block link p.block
      by_verdict link Unsigned = dropped link Unsigned
      by_verdict link BadSignature = dropped link BadSignature
      by_verdict link (BelowFloor floor) = dropped link (BelowFloor floor)
      by_verdict link (NotLater l) = dropped link (NotLater l)
      by_verdict link (TooOld l) = dropped link (TooOld l)
      by_verdict link TooManyStreams = dropped link TooManyStreams

      received : receives rules clock (encoding p) y ≡ hears rules clock p y
      received =
          ap (λ x. hears_all rules clock (frames_of (final_parse x false (encoding p))) y) extras
          ∙ ap (λ ps. hears_all rules clock ps y) alone
          ∙ ends (hears rules clock p y)

      receiving : P (receives rules clock (encoding p) y)
      receiving = subst P (sym received) (by_verdict (tries p y.link) (answer_to y.link.key y.link.history p))

  pub drone_receiving : (clock : ℕ) (n : DroneSide) → n.link.extras ≡ extras_of profile_definitions → same_name p.from everyone ≡ false → Turn (Drone n) (one_if (is_heard n.core.sys m)) (node_receives clock (encoding p) (Drone n))
  drone_receiving clock n extras apart =
      let c = one_if (is_heard n.core.sys m) in
      receiving drone_rules clock n extras (λ o. Turn (Drone n) c (as_drone o))
      (λ link a read. record { weighs = omega arith; carry = tt; idle = tt })
      (λ link block.
      let from = stream_of p block in
      let step = drone_core n.core from m in
      let noted = drone_notes n.services step.first in
      let few = drone_fits true from apart n.core m in
      drone_turn (Drone n) step.core noted step.answer c (steps clock link noted step)
      (steps_so clock noted link step (no_changes from step.core.plans (change_by (drone_step true n.core from m).event)) refl) (omega (arith, few)))

  pub station_receiving : (clock : ℕ) (n : StationSide) → n.link.extras ≡ extras_of profile_definitions → IsIdle (Station n) → Turn (Station n) (one_if (same_name (addressee m) n.core.me)) (node_receives clock (encoding p) (Station n))
  station_receiving clock n extras idle =
      let c = one_if (same_name (addressee m) n.core.me) in
      receiving station_rules clock n extras (λ o. Turn (Station n) c (as_station o))
      (λ link a read. record { weighs = omega arith; carry = tt; idle = idle })
      (λ link block.
      let from = stream_of p block in
      let r = station_step n.core from m in
      station_turn n (station_does r).core r.answer c (steps clock link n.services (station_does r)) idle
      (steps_so clock n.services link (station_does r) refl (no_told r.station.outcome)) (station_fits n.core from m))
