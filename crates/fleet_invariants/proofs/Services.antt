-- What the services of a node keep stays in range, and what they send fits its payload, and is of no plan.
use Rattle.std.proofs.Common.{◌≡◌, ℕ, ◌+◌, ◌^◌, ◌<◌, ◌≤◌, Bool, true, ◌==◌, nat_lt, List, [], ◌∷◌, ◌++◌, length, replicate, Option, Some, None, IfSome, refl, sym, subst, arith, ◌∙◌}
use Rattle.std.specs.Prelude.{All}
use Rattle.std.proofs.lemmas.List.{length-append}
use Rattle.std.proofs.lemmas.List.Elements.{All-nil, All-cons, All-head, All-tail, All-weaker, All-replicate}
use Rattle.field_layout.specs.Payload.{FitsLayout}
use Rattle.mav_names.specs.declared.names.Name.{Name}
use Rattle.mav_names.specs.declared.names.Stream.{Stream}
use Rattle.mav_names.specs.Addresses.{same_stream, is_for_node}
use Rattle.plan_upload.specs.Drone.{DroneState}
use Rattle.mav_messages.specs.declared.commands.CommandLong.{CommandLong}
use Rattle.mav_messages.specs.declared.commands.CommandAck.{CommandAck}
use Rattle.mav_messages.specs.declared.messages.Message.{Message}
use Rattle.mav_messages.specs.declared.messages.Message.TheVariants.{CommandLong as Commands, CommandAck as Acknowledges, FileTransferProtocol}
use Rattle.mav_messages.specs.Messages.{definition_of, values_of}
use Rattle.std.specs.List.{list_any}
use Rattle.plan_items.specs.declared.actions.Action.{Action}
use Rattle.plan_items.specs.declared.items.Item.{Item}
use Rattle.drone_sim.specs.declared.points.Point.{Point}
use Rattle.drone_sim.specs.Sim.{SimState, SimTick, changes, location_of, sim_tick}
use Rattle.drone_sim.specs.Laws.{PointInRange, LocationsInRange, SimInRange}
use Rattle.drone_sim.proofs.Ranges.{new_fits, acts_fit, changes_fit, ticks_fit}
use Rattle.mav_nodes.specs.News.{NodeEvent}
use Rattle.mav_nodes.proofs.Sendings.{flights_fit}
use Rattle.mav_nodes.specs.Payloads.{ItemFits, ServiceFits}
use Rattle.plan_ranges.specs.Ranges.{ItemInRange, StreamInRange}
use Rattle.command_proto.specs.declared.commands.Issue.{Issue}
use Rattle.command_proto.specs.declared.commands.LastCommand.{LastCommand}
use Rattle.command_proto.specs.declared.executor.Ready.{Ready}
use Rattle.command_proto.specs.declared.verdicts.Verdict.{Verdict}
use Rattle.command_proto.specs.Executor.{ExecutorState, ExecutorStep, executor_step, command_comes, ignores, does, verdict_on, command_in, repeats, has_no_room, last_in, with_last, acknowledges, kept_result}
use Rattle.command_proto.specs.Commander.{CommanderState, CommanderStep, idle_limit, first_issue, command_message, commands, counts, acknowledged, ack_comes, commander_step, waits_on, issue_ticks, commander_tick}
use Rattle.command_proto.specs.Laws.{IsSendable, IssueInRange, CommanderStepInRange}
use Rattle.command_proto.proofs.Ranges.{fresh, executed, stepped, ticked, issued}
use Rattle.param_proto.specs.Client.{ClientStep, client_step, client_tick, lists}
use Rattle.param_proto.specs.Server.{server_step}
use Rattle.param_proto.specs.Ranges.{MessageInRange, StepInRange}
use Rattle.param_proto.proofs.ParamRanges.{server_stays}
use Rattle.param_proto.proofs.ClientRanges.{lists_in_range, step_in_range, tick_in_range}
use Rattle.mav_ftp.proofs.FilesRanges.{none_at_first}
use Rattle.mav_nodes.specs.FileServices.{TransferStep, files_step, transfer_heard, transfer_waits}
use Rattle.mav_nodes.specs.Services.{ServiceStep, sent_of, DroneServices, StationServices, drone_params, ready_of, acts_by, drone_serves, drone_notes, position_message, reached_messages, next_time, sim_step, drone_flown, drone_flies, new_drone_services, new_station_services, station_served, station_serves, station_waits, command_of, asks_command, asks_params, changes_mission}
use Rattle.fleet_invariants.specs.Services.{param_count, SoundDroneServices, SoundStationServices}
use Rattle.fleet_invariants.proofs.Tests.{by_test}
use Rattle.fleet_invariants.proofs.Files.{SaysOfFiles, Says_nothing, says_few, drone_says, files_go, no_transfer, hears_idly, waits_idly}
use Rattle.fleet_invariants.proofs.Params.{Sendable, AllSendable, all_sendable, served, ClientGoes, client_hears, client_waits, one_asked, all_normal}

-- ---- messages

sendable_of : (m : Message) → IsSendable m → ServiceFits m → Sendable m
sendable_of m h k = record {
  fits = record { values = h.fits; item = subst ItemFits (sym h.no_plan) tt; service = k };
  no_plan = h.no_plan;
}

one_sendable : (o : Option Message) → IfSome o Sendable → AllSendable (sent_of o)
one_sendable None h = tt
one_sendable (Some m) h = (h, tt)

one_at_most : (o : Option Message) → length (sent_of o) ≤ 1
one_at_most None = omega arith
one_at_most (Some m) = omega arith

both_sendable : (ms ns : List Message) → AllSendable ms → AllSendable ns → AllSendable (ms ++ ns)
both_sendable [] ns h k = k
both_sendable (m ∷ ms) ns h k = (h.0, both_sendable ms ns h.1 k)

some_sendable : (o : Option Message) → IfSome o IsSendable → IfSome o ServiceFits → IfSome o Sendable
some_sendable None h k = tt
some_sendable (Some m) h k = sendable_of m h k

-- ---- a drone's

-- the executor stays its node's, and keeps last commands of known streams
record ExecutorGoes (known : Stream → Bool) (me : Name) (t : ExecutorStep) : Type 0 where
  me_is : t.executor.me ≡ me
  heard : All (λ (l : LastCommand). known l.stream ≡ true) t.executor.last
  answer : IfSome t.answer ServiceFits

no_progress : (to : Stream) (number result : ℕ) → ServiceFits (acknowledges to number result)
no_progress to number result = refl

module _ (known : Stream → Bool) where
  abbrev Known : LastCommand → Type 0
  Known l = known l.stream ≡ true

  known_with : (ls : List LastCommand) (new : LastCommand) → Known new → All Known ls → All Known (with_last ls new)
  known_with [] new is h = All-cons Known new [] is h
  known_with (l ∷ ls) new is h =
      by_test (All Known) (same_stream l.stream new.stream) (new ∷ ls) (l ∷ with_last ls new)
      (λ _. All-cons Known new ls is (All-tail Known l ls h))
      (λ _. All-cons Known l (with_last ls new) (All-head Known l ls h) (known_with ls new is (All-tail Known l ls h)))

  module _ (e : ExecutorState) (from : Stream) (is : known from ≡ true) (h : All Known e.last) (ready : Ready) where
    abbrev Goes : ExecutorStep → Type 0
    Goes = ExecutorGoes known e.me

    does_so : (m : CommandLong) (v : Verdict) → Goes (does e from m v)
    does_so m v = record {
      me_is = refl;
      heard = known_with e.last (record { stream = from; command = command_in m; result = v.result }) is h;
      answer = no_progress from m.command v.result;
    }

    comes : (m : CommandLong) → Goes (command_comes e from m ready)
    comes m =
        by_test Goes (repeats m (last_in e.last from)) _ _
        (λ _. record { me_is = refl; heard = h; answer = no_progress from m.command (kept_result (last_in e.last from)) }) (λ _.
        by_test Goes (has_no_room (last_in e.last from) e.last) _ _
        (λ _. record { me_is = refl; heard = h; answer = no_progress from m.command 1 }) (λ _.
        does_so m (verdict_on m ready)))

    executor_goes : (m : Message) → Goes (executor_step e from m ready)
    executor_goes (Commands m) =
        by_test Goes (is_for_node e.me (record { sys = m.target_system; comp = m.target_component })) (command_comes e from m ready) (ignores e)
        (λ _. comes m) (λ _. record { me_is = refl; heard = h; answer = tt })
    executor_goes _ = record { me_is = refl; heard = h; answer = tt }

-- the most messages that a service sends at a message
abbrev pub most_answers : ℕ
most_answers = param_count

-- what a step of a node's services leaves, and sends
pub record Serves {Services : Type 0} (Sound : Services → Type 0) (t : ServiceStep Services) : Type 0 where
  pub services : Sound t.services
  pub answers : AllSendable t.answers
  pub few : length t.answers ≤ most_answers

-- either its executor answers, or its server does, or a request for files is replied to
one_service : (drone : DroneState) (v : DroneServices) (from : Stream) (m : Message) → length v.server.params ≡ param_count → length (drone_serves drone v from m).answers ≤ most_answers
one_service drone v from (Commands m) h =
    let e = executor_step v.executor from (Commands m) (ready_of drone v) in
    let both = length-append (sent_of e.answer) [] in
    let all = length-append (sent_of e.answer ++ []) [] in
    let one = one_at_most e.answer in
    omega (arith, both, all, one)
one_service drone v from (FileTransferProtocol m) h =
    let one = says_few (files_step v.files v.executor.me from (FileTransferProtocol m)).answers (drone_says v.files v.executor.me from (FileTransferProtocol m)) in
    omega (arith, one)
one_service drone v from m h =
    let all = length-append (server_step v.server v.executor.me m).waiting [] in
    let few = (served v.server h v.executor.me m).few in
    omega (arith, all, few)

-- what its simulator does by a command
acted_fit : (sim : SimState) (action : Option Action) → SimInRange sim → SimInRange (acts_by sim action)
acted_fit sim None h = h
acted_fit sim (Some action) h = acts_fit sim action h

pub drone_serving : (known : Stream → Bool) (me : Name) (drone : DroneState) (v : DroneServices) (from : Stream) (m : Message)
    → SoundDroneServices known me v → StreamInRange from → known from ≡ true → FitsLayout (definition_of m) (values_of m)
    → Serves (SoundDroneServices known me) (drone_serves drone v from m)
drone_serving known me drone v from m h range is fits =
    let e = executor_step v.executor from m (ready_of drone v) in
    let goes = executor_goes known v.executor from is h.heard (ready_of drone v) m in
    let in_range = executed v.executor h.executor from range.sys range.comp (ready_of drone v) m fits in
    let s = served v.server h.count v.executor.me m in
    let stays = server_stays v.server h.server v.executor.me m in
    let files = files_go v.files v.executor.me from m h.files range fits in
    record {
      services = record {
        me_is = goes.me_is ∙ h.me_is;
        executor = in_range.executor;
        heard = goes.heard;
        server = record { few = stays.few; params = stays.params; waiting = All-nil MessageInRange };
        count = s.count;
        waiting = refl;
        sim = acted_fit v.sim e.action h.sim;
        time = h.time;
        files = files.files;
      };
      answers =
          both_sendable (sent_of e.answer ++ (server_step v.server v.executor.me m).waiting) (files_step v.files v.executor.me from m).answers
          (both_sendable (sent_of e.answer) _ (one_sendable e.answer (some_sendable e.answer in_range.answer goes.answer)) (all_sendable (server_step v.server v.executor.me m).waiting s.are stays.waiting))
          files.answers;
      few = one_service drone v from m h.count;
    }

-- the same of its server alone
pub drone_few : (drone : DroneState) (v : DroneServices) (from : Stream) (m : Message) → length v.server.params ≡ param_count
    → (length (drone_serves drone v from m).answers ≤ most_answers) × (length (drone_serves drone v from m).services.server.params ≡ param_count)
drone_few drone v from m h =
    (one_service drone v from m h, (served v.server h v.executor.me m).count)

-- what its services make of a step of its core
pub drone_noting : (known : Stream → Bool) (me : Name) (v : DroneServices) (events : List NodeEvent) → SoundDroneServices known me v → SoundDroneServices known me (drone_notes v events)
drone_noting known me v events h =
    by_test (SoundDroneServices known me) (list_any changes_mission events) (record v { sim = changes v.sim }) v
    (λ _. record {
      me_is = h.me_is;
      executor = h.executor;
      heard = h.heard;
      server = h.server;
      count = h.count;
      waiting = h.waiting;
      sim = changes_fit v.sim h.sim;
      time = h.time;
      files = h.files;
    }) (λ _. h)

-- ---- a tick of its simulator

position_sendable : (time : ℕ) (position : Point) → time < 2 ^ 32 → PointInRange position → Sendable (position_message time position)
position_sendable time position h range = record { fits = flights_fit.position time position h range; no_plan = flights_fit.position_plan time position }

reached_sendable : (reached : Option ℕ) → IfSome reached (λ number. number < 65536) → AllSendable (reached_messages reached)
reached_sendable None h = tt
reached_sendable (Some number) h = (record { fits = flights_fit.reached number h; no_plan = flights_fit.reached_plan number }, tt)

reached_few : (reached : Option ℕ) → length (reached_messages reached) ≤ 1
reached_few None = omega arith
reached_few (Some number) = omega arith

pub flown_few : (v : DroneServices) (tick : SimTick) → length (drone_flown v tick).answers ≤ most_answers
flown_few v tick = let few = reached_few tick.reached in omega (arith, few)

-- where the items of a mission are
locations_fit : (items : List Item) → All ItemInRange items → LocationsInRange items
locations_fit items h = All-weaker ItemInRange (λ (item : Item). PointInRange (location_of item)) (λ item range. record { x = range.x; y = range.y }) items h

pub drone_flying : (known : Stream → Bool) (me : Name) (drone : DroneState) (v : DroneServices) → All ItemInRange drone.plans.mission → SoundDroneServices known me v
    → Serves (SoundDroneServices known me) (drone_flies drone v)
drone_flying known me drone v items h =
    let tick = sim_tick v.sim drone.plans.mission (sim_step v.server) in
    let fit = ticks_fit v.sim drone.plans.mission (sim_step v.server) h.sim (locations_fit drone.plans.mission items) in
    let later : next_time v.time < 2 ^ 32 = omega arith in
    record {
      services = record {
        me_is = h.me_is;
        executor = h.executor;
        heard = h.heard;
        server = h.server;
        count = h.count;
        waiting = h.waiting;
        sim = fit.sim;
        time = later;
        files = h.files;
      };
      answers = (position_sendable (next_time v.time) tick.sim.position later fit.sim.position, reached_sendable tick.reached fit.reached);
      few = flown_few v tick;
    }

-- as many streams are known, or more
pub drone_services_more : (known more : Stream → Bool) → ((q : Stream) → known q ≡ true → more q ≡ true) → (me other : Name) → me ≡ other → (v : DroneServices)
    → SoundDroneServices known me v → SoundDroneServices more other v
drone_services_more known more h me other same v k = record {
  me_is = k.me_is ∙ same;
  executor = k.executor;
  heard = All-weaker (Known known) (Known more) (λ l e. h l.stream e) v.executor.last k.heard;
  server = k.server;
  count = k.count;
  waiting = k.waiting;
  sim = k.sim;
  time = k.time;
  files = k.files;
}

forty : (home : Point) → length (drone_params home) ≡ 40
forty home = refl

pub drone_services_fresh : (known : Stream → Bool) (sys : ℕ) (home : Point) → PointInRange home → SoundDroneServices known (record { sys = sys; comp = 1 }) (new_drone_services sys home)
drone_services_fresh known sys home range = record {
  me_is = refl;
  executor = fresh (record { sys = sys; comp = 1 });
  heard = All-nil (Known known);
  server = record { few = omega arith; params = all_normal (drone_params home) refl; waiting = All-nil MessageInRange };
  count = refl;
  waiting = refl;
  sim = new_fits home range;
  time = omega arith;
  files = none_at_first;
}

-- ---- a station's

record CommanderGoes (me : Name) (t : CommanderStep) : Type 0 where
  me_is : t.commander.me ≡ me
  answer : IfSome t.answer ServiceFits

module _ (c : CommanderState) where
  abbrev Own : CommanderStep → Type 0
  Own = CommanderGoes c.me

  acked : (issue : Option Issue) (from : Stream) (m : CommandAck) → Own (ack_comes c issue from m)
  acked None from m = record { me_is = refl; answer = tt }
  acked (Some i) from m =
      by_test Own (counts c.me i from m) (acknowledged c i m.result) (waits_on c)
      (λ _. by_test Own (m.result == 5) _ _ (λ _. record { me_is = refl; answer = tt }) (λ _. record { me_is = refl; answer = tt }))
      (λ _. record { me_is = refl; answer = tt })

  commander_goes : (from : Stream) (m : Message) → Own (commander_step c from m)
  commander_goes from (Acknowledges m) = acked c.issue from m
  commander_goes from _ = record { me_is = refl; answer = tt }

  waits : (issue : Option Issue) → Own (issue_ticks c issue)
  waits None = record { me_is = refl; answer = tt }
  waits (Some i) =
      by_test Own (nat_lt (i.idle + 1) idle_limit) _ _ (λ _. record { me_is = refl; answer = tt }) (λ _. record { me_is = refl; answer = tt })

commander_sends : (t : CommanderStep) (me : Name) → CommanderStepInRange t → CommanderGoes me t → IfSome t.answer Sendable
commander_sends t me h k = some_sendable t.answer h.answer k.answer

-- a station sends at most three messages
pub station_few : (c : CommanderStep) (p : ClientStep) (f : TransferStep) → SaysOfFiles f.answers → length (station_served c p f).answers ≤ most_answers
station_few c p f says =
    let both = length-append (sent_of c.answer) (sent_of p.answer) in
    let all = length-append (sent_of c.answer ++ sent_of p.answer) f.answers in
    let one = one_at_most c.answer in
    let other = one_at_most p.answer in
    let last = says_few f.answers says in
    omega (arith, both, all, one, other, last)

served_both : (me : Name) (v : StationServices) (c : CommanderStep) (p : ClientStep) (f : TransferStep) → SoundStationServices me v → CommanderStepInRange c → CommanderGoes me c → StepInRange p → ClientGoes me p
    → f ≡ no_transfer v.files → Serves (SoundStationServices me) (station_served c p f)
served_both me v c p f own h k r l idle =
    subst (λ (g : TransferStep). Serves (SoundStationServices me) (station_served c p g)) (sym idle) (record {
      services = record { commander_me = k.me_is; client_me = l.me_is; commander = h.commander; client = r.client; files_me = own.files_me; no_transfer = own.no_transfer };
      answers =
          both_sendable (sent_of c.answer ++ sent_of p.answer) []
          (both_sendable (sent_of c.answer) (sent_of p.answer) (one_sendable c.answer (commander_sends c me h k)) (one_sendable p.answer (one_asked p.answer l.asks r.answer))) tt;
      few = station_few c p (no_transfer v.files) (Says_nothing refl);
    })

-- names that are one
commander_same : (me other : Name) (t : CommanderStep) → me ≡ other → CommanderGoes me t → CommanderGoes other t
commander_same me other t same h = record { me_is = h.me_is ∙ same; answer = h.answer }

client_same : (me other : Name) (t : ClientStep) → me ≡ other → ClientGoes me t → ClientGoes other t
client_same me other t same h = record { me_is = h.me_is ∙ same; asks = h.asks }

module _ (me : Name) (v : StationServices) (h : SoundStationServices me v) where
  pub station_serving : (from : Stream) (m : Message) → Serves (SoundStationServices me) (station_serves v from m)
  station_serving from m =
      served_both me v (commander_step v.commander from m) (client_step v.client from m) (transfer_heard v.files from m) h (stepped v.commander from m h.commander)
      (commander_same _ me _ h.commander_me (commander_goes v.commander from m)) (step_in_range v.client h.client from m) (client_same _ me _ h.client_me (client_hears v.client from m)) (hears_idly v.files from m h.no_transfer)

  pub station_waiting : Serves (SoundStationServices me) (station_waits v)
  station_waiting =
      served_both me v (commander_tick v.commander) (client_tick v.client) (transfer_waits v.files) h (ticked v.commander h.commander)
      (commander_same _ me _ h.commander_me (waits v.commander v.commander.issue)) (tick_in_range v.client h.client) (client_same _ me _ h.client_me (client_waits v.client)) (waits_idly v.files h.no_transfer)

  pub command_asked : (drone : Stream) (number word : ℕ) → StreamInRange drone → number < 65536 → word < 2 ^ 32
      → Serves (SoundStationServices me) (asks_command v (commands v.commander drone (command_of number word)))
  command_asked drone number word range small short =
      let issue : IssueInRange (first_issue drone (command_of number word)) = record {
        sys = range.sys;
        comp = range.comp;
        number = small;
        seven = refl;
        words = All-cons (λ w. w < 2 ^ 32) word (replicate 6 0) short (zeros 6);
        confirmation = omega arith;
        idle = omega arith;
      } in
      let step = issued v.commander drone (command_of number word) issue in
      record {
        services = record { commander_me = h.commander_me; client_me = h.client_me; commander = step.commander; client = h.client; files_me = h.files_me; no_transfer = h.no_transfer };
        answers = (sendable_of (command_message (first_issue drone (command_of number word))) step.answer tt, tt);
        few = omega arith;
      }
    where
      zeros : (n : ℕ) → All (λ w. w < 2 ^ 32) (replicate n 0)
      zeros n = All-replicate (λ w. w < 2 ^ 32) n 0 (omega arith)

  pub params_asked : (drone : Stream) → StreamInRange drone → Serves (SoundStationServices me) (asks_params v (lists v.client drone))
  params_asked drone range =
      let step = lists_in_range v.client drone (record { sys = range.sys; comp = range.comp }) in
      record {
        services = record { commander_me = h.commander_me; client_me = h.client_me; commander = h.commander; client = step.client; files_me = h.files_me; no_transfer = h.no_transfer };
        answers = one_sendable (lists v.client drone).answer (one_asked (lists v.client drone).answer tt step.answer);
        few = omega arith;
      }

pub station_services_fresh : (me : Name) → SoundStationServices me (new_station_services me)
station_services_fresh me = record { commander_me = refl; client_me = refl; commander = tt; client = tt; files_me = refl; no_transfer = refl }

pub station_services_same : (me other : Name) (v : StationServices) → me ≡ other → SoundStationServices me v → SoundStationServices other v
station_services_same me other v same h = record {
  commander_me = h.commander_me ∙ same;
  client_me = h.client_me ∙ same;
  commander = h.commander;
  client = h.client;
  files_me = h.files_me ∙ same;
  no_transfer = h.no_transfer;
}
