-- What the services of nodes send carries no message of the mission protocol, and what ends with it is reported elsewhere.
use Rattle.std.proofs.Common.{◌≡◌, ℕ, ℤ, pos, negsuc, zero, suc, ◌+◌, ◌≤◌, ◌==◌, Bool, nat_lt, List, [], ◌∷◌, ◌++◌, length, slice_get, Option, Some, None, IfSome, refl, sym, subst, arith, true, false, length-append}
use Rattle.std.specs.Prelude.{nat_le}
use Rattle.mav_names.specs.declared.names.Name.{Name}
use Rattle.mav_names.specs.declared.names.Stream.{Stream}
use Rattle.mav_names.specs.Addresses.{same_stream, is_for_node}
use Rattle.plan_upload.specs.Drone.{DroneState}
use Rattle.plan_safety.specs.World as world
use Rattle.plan_safety.proofs.Keys.{by_test}
use Rattle.mav_messages.specs.declared.commands.CommandAck.{CommandAck}
use Rattle.mav_messages.specs.declared.params.ParamRequestRead.{ParamRequestRead}
use Rattle.mav_messages.specs.declared.params.ParamValue.{ParamValue}
use Rattle.mav_messages.specs.declared.messages.Message.{Message}
use Rattle.mav_messages.specs.declared.messages.Message.TheVariants.{CommandLong as Commands, CommandAck as Acknowledges, ParamRequestRead as Requests, ParamRequestList as Lists, ParamSet as Sets, ParamValue as Tells}
use Rattle.mav_messages.specs.Plans.{plan_of}
use Rattle.command_proto.specs.declared.commands.Issue.{Issue}
use Rattle.command_proto.specs.declared.executor.Ready.{Ready}
use Rattle.command_proto.specs.Executor.{ExecutorState, ExecutorStep, executor_step, command_comes, ignores, repeats, has_no_room, last_in}
use Rattle.command_proto.specs.Commander.{CommanderState, CommanderStep, CommandEnd, idle_limit, commands, counts, acknowledged, ack_comes, commander_step, waits_on, issue_ticks, commander_tick}
use Rattle.param_proto.specs.declared.params.Param.{Param}
use Rattle.param_proto.specs.Server.{ServerState, values_from, value_of, value_at, place_of, asked_for, params_set, serves, value_set, if_for, server_step}
use Rattle.param_proto.specs.Client.{Task, Reads, Sets_to, All_listed, Operation, ClientState, ClientStep, ParamsEnd, One_value, All_values, No_answer as No_params_answer, idle_limit as client_limit, known_values, with_value, was_taken, list_message, asks_all, request_of, lists, rests, param_in, one_comes, listed, heard_at, answered, told, client_step, operation_ticks, client_tick}
use Rattle.param_proto.specs.Params.{same_id}
use Rattle.mav_nodes.specs.News.{NodeEvent}
use Rattle.drone_sim.specs.Sim.{sim_tick}
use Rattle.mav_nodes.specs.declared.news.FileEnd.{FileEnd}
use Rattle.mav_nodes.specs.FileServices.{TransferStep, files_step, transfer_heard, transfer_waits}
use Rattle.mav_nodes.specs.Services.{sent_of, DroneServices, StationServices, ready_of, drone_serves, station_served, station_serves, station_waits, command_of, asks_command, asks_params, command_events, params_events, file_events, reached_messages, reached_events, captured_events, sim_step, drone_flies}
use Rattle.fleet_world.specs.Steps.{packets_in}
use Rattle.fleet_invariants.proofs.Files.{SaysOfFiles, Says_nothing, Says_one, drone_says, station_says, tick_says}
use Rattle.fleet_safety.specs.Actions.{speaks_all}
use Rattle.fleet_safety.proofs.Reports.{seen_by}

abbrev pub IsOther : Message → Type 0
IsOther m = plan_of m ≡ None

abbrev pub AllOther : List Message → Type 0
AllOther [] = Unit {0}
AllOther (m ∷ ms) = IsOther m × AllOther ms

others_on : (ms ns : List Message) → AllOther ms → AllOther ns → AllOther (ms ++ ns)
others_on [] ns h k = k
others_on (m ∷ ms) ns h k = (h.0, others_on ms ns h.1 k)

one_other : (o : Option Message) → IfSome o IsOther → AllOther (sent_of o)
one_other None h = tt
one_other (Some m) h = (h, tt)

files_other : (ms : List Message) → SaysOfFiles ms → AllOther ms
files_other ms (Says_nothing e) = subst AllOther (sym e) tt
files_other ms (Says_one to payload e) = subst AllOther (sym e) (refl, tt)

-- ---- a drone's

abbrev Executes : ExecutorStep → Type 0
Executes t = IfSome t.answer IsOther

executes : (e : ExecutorState) (from : Stream) (m : Message) (ready : Ready) → Executes (executor_step e from m ready)
executes e from (Commands m) ready =
    by_test Executes (is_for_node e.me (record { sys = m.target_system; comp = m.target_component })) (command_comes e from m ready) (ignores e)
    (λ _. by_test Executes (repeats m (last_in e.last from)) _ _ (λ _. refl) (λ _. by_test Executes (has_no_room (last_in e.last from) e.last) _ _ (λ _. refl) (λ _. refl)))
    (λ _. tt)
executes e from _ ready = tt

values_other : (count index : ℕ) (ps : List Param) → AllOther (values_from count index ps)
values_other count index [] = tt
values_other count index (p ∷ ps) = (refl, values_other count (index + 1) ps)

value_there : (count index : ℕ) (o : Option Param) → AllOther (value_of count index o)
value_there count index None = tt
value_there count index (Some p) = (refl, tt)

value_found : (params : List Param) (place : Option ℕ) → AllOther (value_at params place)
value_found params None = tt
value_found params (Some index) = value_there (length params) index (slice_get params index)

value_asked : (params : List Param) (m : ParamRequestRead) (index : ℤ) → AllOther (asked_for params m index)
value_asked params m (pos index) = value_found params (Some index)
value_asked params m (negsuc zero) = value_found params (place_of params m.param_id)
value_asked params m (negsuc (suc n)) = tt

abbrev Waits : ServerState → Type 0
Waits s = AllOther s.waiting

for_me : (b : Bool) (s t : ServerState) → Waits t → Waits (if_for b s t)
for_me b s t h = by_test Waits b t (serves s.params []) (λ _. h) (λ _. tt)

server_sends : (s : ServerState) (me : Name) (m : Message) → Waits (server_step s me m)
server_sends s me (Requests m) =
    for_me (is_for_node me (record { sys = m.target_system; comp = m.target_component })) s (serves s.params (asked_for s.params m m.param_index)) (value_asked s.params m m.param_index)
server_sends s me (Lists m) =
    for_me (is_for_node me (record { sys = m.target_system; comp = m.target_component })) s (serves s.params (values_from (length s.params) 0 s.params)) (values_other (length s.params) 0 s.params)
server_sends s me (Sets m) =
    let place = place_of s.params m.param_id in
    for_me (is_for_node me (record { sys = m.target_system; comp = m.target_component })) s (value_set s m place) (value_found (params_set s.params m place) place)
server_sends s me _ = tt

pub drone_others : (drone : DroneState) (v : DroneServices) (from : Stream) (m : Message) → AllOther (drone_serves drone v from m).answers
drone_others drone v from m =
    let e = executor_step v.executor from m (ready_of drone v) in
    let waiting = (server_step v.server v.executor.me m).waiting in
    let replies = (files_step v.files v.executor.me from m).answers in
    others_on (sent_of e.answer ++ waiting) replies
    (others_on (sent_of e.answer) waiting (one_other e.answer (executes v.executor from m (ready_of drone v))) (server_sends v.server v.executor.me m))
    (files_other replies (drone_says v.files v.executor.me from m))

reached_other : (reached : Option ℕ) → AllOther (reached_messages reached)
reached_other None = tt
reached_other (Some number) = (refl, tt)

pub flown_others : (drone : DroneState) (v : DroneServices) → AllOther (drone_flies drone v).answers
flown_others drone v = (refl, reached_other (sim_tick v.sim drone.plans.mission (sim_step v.server)).reached)

-- ---- a station's

abbrev Gives : CommanderStep → Type 0
Gives t = IfSome t.answer IsOther

acks : (c : CommanderState) (issue : Option Issue) (from : Stream) (m : CommandAck) → Gives (ack_comes c issue from m)
acks c None from m = tt
acks c (Some i) from m =
    by_test Gives (counts c.me i from m) (acknowledged c i m.result) (waits_on c) (λ _. by_test Gives (m.result == 5) _ _ (λ _. tt) (λ _. tt)) (λ _. tt)

commander_hears : (c : CommanderState) (from : Stream) (m : Message) → Gives (commander_step c from m)
commander_hears c from (Acknowledges m) = acks c c.issue from m
commander_hears c from _ = tt

commander_waits : (c : CommanderState) (issue : Option Issue) → Gives (issue_ticks c issue)
commander_waits c None = tt
commander_waits c (Some i) = by_test Gives (nat_lt (i.idle + 1) idle_limit) _ _ (λ _. refl) (λ _. tt)

abbrev Asks : ClientStep → Type 0
Asks t = IfSome t.answer IsOther

all_listed : (c : ClientState) (o : Operation) (count : ℕ) (values : List (Option Param)) → Asks (listed c o count values)
all_listed c o count values = by_test Asks (nat_le count (length (known_values values))) _ _ (λ _. tt) (λ _. tt)

one_told : (c : ClientState) (id : List ℕ) (m : ParamValue) → Asks (one_comes c id m)
one_told c id m = by_test Asks (same_id m.param_id id) _ (rests c) (λ _. tt) (λ _. tt)

task_told : (c : ClientState) (o : Operation) (task : Task) (m : ParamValue) → Asks (answered c o task m)
task_told c o (Reads id) m = one_told c id m
task_told c o (Sets_to p) m = one_told c p.id m
task_told c o All_listed m =
    by_test Asks (m.param_count == 0) _ _ (λ _. all_listed c o 0 c.values) (λ _.
    by_test Asks (nat_lt m.param_index m.param_count) _ (rests c) (λ _. all_listed c (heard_at o (was_taken c.values m.param_index)) m.param_count (with_value c.values m.param_index (param_in m))) (λ _. tt))

operation_told : (c : ClientState) (o : Option Operation) (from : Stream) (m : ParamValue) → Asks (told c o from m)
operation_told c None from m = tt
operation_told c (Some o) from m = by_test Asks (same_stream o.drone from) (answered c o o.task m) (rests c) (λ _. task_told c o o.task m) (λ _. tt)

client_hears : (c : ClientState) (from : Stream) (m : Message) → Asks (client_step c from m)
client_hears c from (Tells m) = operation_told c c.operation from m
client_hears c from _ = tt

requested : (drone : Stream) (task : Task) (values : List (Option Param)) → IsOther (request_of drone task values)
requested drone (Reads id) values = refl
requested drone (Sets_to p) values = refl
requested drone All_listed values = by_test IsOther (asks_all values) (list_message drone) _ (λ _. refl) (λ _. refl)

client_waits : (c : ClientState) (o : Option Operation) → Asks (operation_ticks c o)
client_waits c None = tt
client_waits c (Some o) = by_test Asks (nat_lt (o.idle + 1) client_limit) _ _ (λ _. requested o.drone o.task c.values) (λ _. tt)

served : (c : CommanderStep) (p : ClientStep) (f : TransferStep) → Gives c → Asks p → SaysOfFiles f.answers → AllOther (station_served c p f).answers
served c p f h k says =
    others_on (sent_of c.answer ++ sent_of p.answer) f.answers (others_on (sent_of c.answer) (sent_of p.answer) (one_other c.answer h) (one_other p.answer k)) (files_other f.answers says)

pub station_others : (v : StationServices) (from : Stream) (m : Message) → AllOther (station_serves v from m).answers
station_others v from m =
    served (commander_step v.commander from m) (client_step v.client from m) (transfer_heard v.files from m)
    (commander_hears v.commander from m) (client_hears v.client from m) (station_says v.files from m)

pub waiting_others : (v : StationServices) → AllOther (station_waits v).answers
waiting_others v =
    served (commander_tick v.commander) (client_tick v.client) (transfer_waits v.files)
    (commander_waits v.commander v.commander.issue) (client_waits v.client v.client.operation) (tick_says v.files)

pub command_others : (v : StationServices) (drone : Stream) (number word : ℕ) → AllOther (asks_command v (commands v.commander drone (command_of number word))).answers
command_others v drone number word = (refl, tt)

pub params_others : (v : StationServices) (drone : Stream) → AllOther (asks_params v (lists v.client drone)).answers
params_others v drone = (refl, tt)

-- ---- how they end

-- what happens in a node without any frame, and isn't of the mission protocol
pub record IsAside (es : List NodeEvent) : Type 0 where
  pub none : packets_in es ≡ []
  pub unseen : (name : Name) (before : ℕ) → seen_by name before es ≡ []
  pub unspoken : (wait : ℕ → world.Event) (me : Stream) → speaks_all wait me es ≡ []

pub aside_nothing : IsAside []
aside_nothing = record { none = refl; unseen = λ name before. refl; unspoken = λ wait me. refl }

file_aside : (end : Option FileEnd) → IsAside (file_events end)
file_aside None = aside_nothing
file_aside (Some end) = record { none = refl; unseen = λ name before. refl; unspoken = λ wait me. refl }

params_aside : (end : Option ParamsEnd) (es : List NodeEvent) → IsAside es → IsAside (params_events end ++ es)
params_aside None es h = h
params_aside (Some (One_value param)) es h = record { none = h.none; unseen = h.unseen; unspoken = h.unspoken }
params_aside (Some (All_values values)) es h = record { none = h.none; unseen = h.unseen; unspoken = h.unspoken }
params_aside (Some No_params_answer) es h = record { none = h.none; unseen = h.unseen; unspoken = h.unspoken }

pub ends_aside : (c : CommanderStep) (p : ClientStep) (f : TransferStep) → IsAside (station_served c p f).last
ends_aside c p f = all c.end p.end (file_events f.end) (file_aside f.end)
  where
    all : (command : Option CommandEnd) (params : Option ParamsEnd) (es : List NodeEvent) → IsAside es → IsAside ((command_events command ++ params_events params) ++ es)
    all None params es h = params_aside params es h
    all (Some result) params es h = let k = params_aside params es h in record { none = k.none; unseen = k.unseen; unspoken = k.unspoken }

captured_aside : (captured : Bool) (total : ℕ) → IsAside (captured_events captured total)
captured_aside true total = record { none = refl; unseen = λ name before. refl; unspoken = λ wait me. refl }
captured_aside false total = aside_nothing

pub flown_aside : (drone : DroneState) (v : DroneServices) → IsAside (drone_flies drone v).last
flown_aside drone v =
    let tick = sim_tick v.sim drone.plans.mission (sim_step v.server) in
    both tick.reached (captured_events tick.captured tick.sim.captures) (captured_aside tick.captured tick.sim.captures)
  where
    both : (reached : Option ℕ) (es : List NodeEvent) → IsAside es → IsAside (reached_events reached ++ es)
    both None es h = h
    both (Some number) es h = record { none = h.none; unseen = h.unseen; unspoken = h.unspoken }

-- at most two messages
pub few_flown : (drone : DroneState) (v : DroneServices) → length (drone_flies drone v).answers ≤ 2
few_flown drone v = both (sim_tick v.sim drone.plans.mission (sim_step v.server)).reached
  where
    both : (reached : Option ℕ) → suc (length (reached_messages reached)) ≤ 2
    both None = omega arith
    both (Some number) = omega arith

pub few_sent : (c : CommanderStep) (p : ClientStep) (f : TransferStep) → length (station_served c p f).answers ≤ 2 + length f.answers
few_sent c p f =
    let all = length-append (sent_of c.answer ++ sent_of p.answer) f.answers in
    let few = both c.answer p.answer in
    omega (arith, all, few)
  where
    both : (a b : Option Message) → length (sent_of a ++ sent_of b) ≤ 2
    both None None = omega arith
    both None (Some m) = omega arith
    both (Some m) None = omega arith
    both (Some m) (Some l) = omega arith
