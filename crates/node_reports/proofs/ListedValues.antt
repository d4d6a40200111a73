-- The values of each list of parameters that ends in a call are those that the node knows after the call.
use Rattle.std.proofs.Common.{◌≡◌, ℕ, ◌+◌, Bool, true, false, if◌then◌else◌, ◌==◌, nat_lt, nat_le, List, [], ◌∷◌, ◌++◌, length, ◌⊎◌, inl, inr, Option, Some, None, refl, sym, ap, subst, ◌∙◌}
use Rattle.mav_names.specs.declared.names.Stream.{Stream}
use Rattle.mav_names.specs.Addresses.{same_stream}
use Rattle.plan_items.specs.declared.messages.PlanMsg.{PlanMsg}
use Rattle.plan_items.specs.Kinds.{number_of}
use Rattle.plan_items.specs.Plans.{items_of}
use Rattle.plan_upload.specs.declared.changes.Change.{Change}
use Rattle.plan_upload.specs.declared.changes.Change.TheVariants.{Same, Install, Empty}
use Rattle.plan_upload.specs.Changes.{change_by}
use Rattle.plan_upload.specs.Plans.{Plans}
use Rattle.plan_upload.specs.Kinds.{clear_number}
use Rattle.plan_upload.specs.Drone.{drone_step, drone_tick}
use Rattle.plan_upload.specs.Station.{StationStep, Told, station_step, station_tick, station_cancel, begin_upload, begin_clear, begin_get}
use Rattle.mav_frame.specs.Packet.{Packet, SignatureBlock}
use Rattle.mav_frame.specs.FinalParse.{final_parse}
use Rattle.mav_messages.specs.declared.messages.Message.{Message}
use Rattle.mav_messages.specs.declared.messages.Message.TheVariants.{ParamValue as Tells}
use Rattle.mav_messages.specs.declared.params.ParamValue.{ParamValue}
use Rattle.mav_messages.specs.Plans.{message_of_plan}
use Rattle.mav_sign.specs.declared.admission.Admit.{Admit}
use Rattle.mav_sign.specs.declared.admission.Admit.TheVariants.{Admitted, Unsigned, BadSignature, BelowFloor, NotLater, TooOld, TooManyStreams}
use Rattle.mav_sign.specs.History.{stream_of, answer_to}
use Rattle.mav_sign.specs.Endpoints.{frames_of}
use Rattle.command_proto.specs.Commander.{CommandEnd, commands, commander_step, commander_tick}
use Rattle.param_proto.specs.declared.params.Param.{Param}
use Rattle.param_proto.specs.Params.{same_id}
use Rattle.param_proto.specs.Client.{ClientState, ClientStep, Operation, Task, Reads, Sets_to, All_listed, ParamsEnd, One_value, All_values, No_answer, known_values, with_value, was_taken, heard_at, rests, param_in, one_comes, listed, value_comes, answered, told, client_step, idle_limit, operation_ticks, client_tick, reads, sets, lists}
use Rattle.param_proto.proofs.ListLaws.{every_end, idle_message, idle_tick}
use Rattle.drone_sim.specs.Sim.{armed, sim_tick}
use Rattle.mav_nodes.specs.News.{NodeEvent, Sends, Installs, Empties, Drops, Ends, Ends_command, Gives_param, Ends_params, Reaches, Captures, Ends_file}
use Rattle.mav_nodes.specs.Payloads.{plan_in, service_in}
use Rattle.mav_nodes.specs.declared.news.FileEnd.{FileEnd}
use Rattle.mav_nodes.specs.FileServices.{transfer_heard, transfer_waits, begins, file_order}
use Rattle.mav_nodes.specs.Services.{ServiceStep, DroneServices, drone_flies, sim_step, reached_events, captured_events, StationServices, command_events, params_events, station_serves, station_waits, asks_command, asks_params, asks_file, file_events, command_of}
use Rattle.mav_nodes.specs.Links.{Link, Outcome, done, after_events, and_then, tries, sends, sends_all}
use Rattle.mav_nodes.specs.Steps.{Side, Rules, CoreStep, answers, with_core, steps, serves, serves_if, takes, admits, hears, hears_all, hears_keeping, receives}
use Rattle.mav_nodes.specs.Nodes.{DroneSide, StationSide, change_events, told_events, drone_rules, drone_rules_keeping, drone_receives, drone_beats, drone_ticks, drone_sims, drone_heartbeat, drone_waits, station_rules, station_does, station_heartbeat, services_tick, station_ticks, station_beats, station_obeys}
use Rattle.mav_nodes.specs.declared.orders.Order.{Order}
use Rattle.mav_nodes.specs.declared.orders.Order.TheVariants.{Begin, Cancel, Clear, Get, Command, ParamRead, ParamSet, ParamList, File}
use Rattle.node_reports.specs.Nodes.{Node, Drone, Station}
use Rattle.node_reports.specs.Calls.{as_drone, as_station, node_receives, node_beats, node_ticks, node_flies}
use Rattle.node_reports.specs.ParamLists.{params_of, HasValues, HaveValues}

-- ---- events among which no list ends

abbrev IsQuiet : NodeEvent → Type 0
IsQuiet (Ends_params (Some listed)) = ⊥
IsQuiet (Ends_params None) = Unit {0}
IsQuiet (Sends packet message) = Unit {0}
IsQuiet (Installs kind items by) = Unit {0}
IsQuiet (Empties kind) = Unit {0}
IsQuiet (Drops answer) = Unit {0}
IsQuiet (Ends told) = Unit {0}
IsQuiet (Ends_command result) = Unit {0}
IsQuiet (Gives_param param) = Unit {0}
IsQuiet (Reaches number) = Unit {0}
IsQuiet (Captures total) = Unit {0}
IsQuiet (Ends_file end) = Unit {0}

abbrev AreQuiet : List NodeEvent → Type 0
AreQuiet [] = Unit {0}
AreQuiet (e ∷ es) = IsQuiet e × AreQuiet es

quiet-append : (xs ys : List NodeEvent) → AreQuiet xs → AreQuiet ys → AreQuiet (xs ++ ys)
quiet-append [] ys a b = b
quiet-append (x ∷ xs) ys a b = (a.0, quiet-append xs ys a.1 b)

quiet_event : (values : List Param) (e : NodeEvent) → IsQuiet e → HasValues values e
quiet_event values (Ends_params (Some listed)) q = absurd q
quiet_event values (Ends_params None) q = tt
quiet_event values (Sends packet message) q = tt
quiet_event values (Installs kind items by) q = tt
quiet_event values (Empties kind) q = tt
quiet_event values (Drops answer) q = tt
quiet_event values (Ends told) q = tt
quiet_event values (Ends_command result) q = tt
quiet_event values (Gives_param param) q = tt
quiet_event values (Reaches number) q = tt
quiet_event values (Captures total) q = tt
quiet_event values (Ends_file end) q = tt

quiet_have : (values : List Param) (es : List NodeEvent) → AreQuiet es → HaveValues values es
quiet_have values [] q = tt
quiet_have values (e ∷ es) q = (quiet_event values e q.0, quiet_have values es q.1)

have-append : (values : List Param) (xs ys : List NodeEvent) → HaveValues values xs → HaveValues values ys → HaveValues values (xs ++ ys)
have-append values [] ys a b = b
have-append values (x ∷ xs) ys a b = (a.0, have-append values xs ys a.1 b)

-- ---- a call of a node over any core and any services, whose steps are so related

abbrev QuietLink : Outcome Link → Type 0
QuietLink None = Unit {0}
QuietLink (Some d) = AreQuiet d.events

sends-if : (test : Bool) (link : Link) (packet : Packet) (message : Message) → QuietLink (if test then None else done link (Sends packet message ∷ []))
sends-if true link packet message = tt
sends-if false link packet message = (tt, tt)

sends-quiet : (clock : ℕ) (message : Message) (link : Link) → QuietLink (sends clock message link)
sends-quiet clock message link = sends-if _ _ _ _

answers-quiet : (clock : ℕ) (answer : Option PlanMsg) (link : Link) → QuietLink (answers clock answer link)
answers-quiet clock None link = tt
answers-quiet clock (Some message) link = sends-quiet clock (message_of_plan message) link

links-quiet : (o : Outcome Link) (next : Link → Outcome Link) → QuietLink o → ((link : Link) → QuietLink (next link)) → QuietLink (and_then o next)
links-quiet None next h rest = tt
links-quiet (Some d) next h rest = joined (next d.node) (rest d.node)
  where
    joined : (o : Outcome Link) → QuietLink o → QuietLink (after_events d.events o)
    joined None k = tt
    joined (Some e) k = quiet-append d.events e.events h k

sends_all-quiet : (clock : ℕ) (messages : List Message) (link : Link) → QuietLink (sends_all clock messages link)
sends_all-quiet clock [] link = tt
sends_all-quiet clock (message ∷ messages) link = links-quiet (sends clock message link) (sends_all clock messages) (sends-quiet clock message link) (sends_all-quiet clock messages)

module _ {Core Services : Type 0} (R : Services → Services → List NodeEvent → Type 0) where
  abbrev Did : Services → Outcome (Side Core Services) → Type 0
  Did s None = Unit {0}
  Did s (Some d) = R s d.node.services d.events

  module _ (quiet : (s : Services) (es : List NodeEvent) → AreQuiet es → R s s es) (both : (a b c : Services) (xs ys : List NodeEvent) → R a b xs → R b c ys → R a c (xs ++ ys)) where
    with_core-did : (before : Services) (core : Core) (services : Services) (last : List NodeEvent) (o : Outcome Link) → QuietLink o → R before services last → Did before (with_core core services last o)
    with_core-did before core services last None q r = tt
    with_core-did before core services last (Some d) q r = both before before services d.events last (quiet before d.events q) r

    behind-did : (s after : Services) (first : List NodeEvent) (o : Outcome (Side Core Services)) → R s after first → Did after o → Did s (after_events first o)
    behind-did s after first None q r = tt
    behind-did s after first (Some d) q r = both s after d.node.services first d.events q r

    -- the services have noted the first events of the step
    noted-did : (clock : ℕ) (link : Link) (s after : Services) (step : CoreStep Core) → R s after step.first → AreQuiet step.last → Did s (steps clock link after step)
    noted-did clock link s after step first last =
        behind-did s after step.first _ first (with_core-did after step.core after step.last _ (answers-quiet clock step.answer link) (quiet after step.last last))

    steps-did : (clock : ℕ) (link : Link) (s : Services) (step : CoreStep Core) → AreQuiet step.first → AreQuiet step.last → Did s (steps clock link s step)
    steps-did clock link s step first last = noted-did clock link s s step (quiet s step.first first) last

    serves-did : (clock : ℕ) (link : Link) (core : Core) (s : Services) (step : ServiceStep Services) → R s step.services step.last → Did s (serves clock link core step)
    serves-did clock link core s step r = with_core-did s core step.services step.last _ (sends_all-quiet clock step.answers link) r

    and_then-did : (s : Services) (o : Outcome (Side Core Services)) (next : Side Core Services → Outcome (Side Core Services)) → Did s o → ((node : Side Core Services) → Did node.services (next node)) → Did s (and_then o next)
    and_then-did s None next h rest = tt
    and_then-did s (Some d) next h rest = joined (next d.node) (rest d.node)
      where
        joined : (o : Outcome (Side Core Services)) → Did d.node.services o → Did s (after_events d.events o)
        joined None k = tt
        joined (Some e) k = both s d.node.services e.node.services d.events e.events h k

    module _ (rules : Rules Core Services) (clock : ℕ) (first : (core : Core) (s : Services) (from : Stream) (m : PlanMsg) → R s (rules.note s (rules.take core from m).first) (rules.take core from m).first) (last : (core : Core) (from : Stream) (m : PlanMsg) → AreQuiet (rules.take core from m).last) (served : (core : Core) (s : Services) (from : Stream) (m : Message) → R s (rules.serve core s from m).services (rules.serve core s from m).last) where
      serves_if-did : (node : Side Core Services) (from : Stream) (message : Option Message) → Did node.services (serves_if rules clock node from message)
      serves_if-did node from None = quiet node.services [] tt
      serves_if-did node from (Some m) = serves-did clock node.link node.core node.services (rules.serve node.core node.services from m) (served node.core node.services from m)

      takes-did : (node : Side Core Services) (from : Stream) (message : Option PlanMsg) (other : Option Message) → Did node.services (takes rules clock node from message other)
      takes-did node from None other = serves_if-did node from other
      takes-did node from (Some m) other = noted-did clock node.link node.services (rules.note node.services (rules.take node.core from m).first) (rules.take node.core from m) (first node.core node.services from m) (last node.core from m)

      admits-did : (node : Side Core Services) (packet : Packet) (answer : Admit) (block : Option SignatureBlock) → Did node.services (admits rules clock node packet answer block)
      admits-did node packet Admitted (Some block) = takes-did node (stream_of packet block) (plan_in packet.id packet.payload) (service_in packet.id packet.payload)
      admits-did node packet Admitted None = quiet node.services _ (tt, tt)
      admits-did node packet Unsigned block = quiet node.services _ (tt, tt)
      admits-did node packet BadSignature block = quiet node.services _ (tt, tt)
      admits-did node packet (BelowFloor floor) block = quiet node.services _ (tt, tt)
      admits-did node packet (NotLater latest) block = quiet node.services _ (tt, tt)
      admits-did node packet (TooOld local) block = quiet node.services _ (tt, tt)
      admits-did node packet TooManyStreams block = quiet node.services _ (tt, tt)

      hears-did : (packet : Packet) (node : Side Core Services) → Did node.services (hears rules clock packet node)
      hears-did packet node = admits-did (record node { link = tries packet node.link }) packet (answer_to node.link.key node.link.history packet) packet.block

      hears_all-did : (packets : List Packet) (node : Side Core Services) → Did node.services (hears_all rules clock packets node)
      hears_all-did [] node = quiet node.services [] tt
      hears_all-did (packet ∷ packets) node = and_then-did node.services (hears rules clock packet node) (hears_all rules clock packets) (hears-did packet node) (hears_all-did packets)

      receives-did : (datagram : List ℕ) (node : Side Core Services) → Did node.services (receives rules clock datagram node)
      receives-did datagram node = hears_all-did (frames_of (final_parse node.link.extras false datagram)) node

    -- the same of a node whose store may not keep what is saved
    module _ (rules : Bool → Rules Core Services) (clock : ℕ) (heard : (kept : Bool) (packet : Packet) (node : Side Core Services) → Did node.services (hears (rules kept) clock packet node)) where
      hears_keeping-did : (keeps : List Bool) (packets : List Packet) (node : Side Core Services) → Did node.services (hears_keeping rules clock keeps packets node)
      hears_keeping-did keeps [] node = quiet node.services [] tt
      hears_keeping-did [] (packet ∷ packets) node =
          and_then-did node.services (hears (rules true) clock packet node) (hears_keeping rules clock [] packets) (heard true packet node) (hears_keeping-did [] packets)
      hears_keeping-did (kept ∷ keeps) (packet ∷ packets) node =
          and_then-did node.services (hears (rules kept) clock packet node) (hears_keeping rules clock keeps packets) (heard kept packet node) (hears_keeping-did keeps packets)

-- ---- a drone lists no parameters

abbrev DroneListed : DroneServices → DroneServices → List NodeEvent → Type 0
DroneListed before after events = AreQuiet events

drone_both : (a b c : DroneServices) (xs ys : List NodeEvent) → DroneListed a b xs → DroneListed b c ys → DroneListed a c (xs ++ ys)
drone_both a b c xs ys f g = quiet-append xs ys f g

changes_quiet : (by : Stream) (plans : Plans) (change : Change) → AreQuiet (change_events by plans change)
changes_quiet by plans Same = tt
changes_quiet by plans (Install kind) = (tt, tt)
changes_quiet by plans (Empty None) = (tt, (tt, (tt, tt)))
changes_quiet by plans (Empty (Some kind)) = (tt, tt)

drone_hearing : (clock : ℕ) (keeps : List Bool) (packets : List Packet) (n : DroneSide) → Did DroneListed n.services (hears_keeping drone_rules_keeping clock keeps packets n)
drone_hearing clock keeps packets n =
    hears_keeping-did DroneListed (λ s es q. q) drone_both drone_rules_keeping clock
    (λ kept packet node. hears-did DroneListed (λ s es q. q) drone_both (drone_rules_keeping kept) clock
    (λ core s from m. changes_quiet from (drone_step kept core from m).drone.plans (change_by (drone_step kept core from m).event)) (λ core from m. tt) (λ core s from m. tt) packet node) keeps packets n

drone_receiving : (clock : ℕ) (datagram : List ℕ) (n : DroneSide) → Did DroneListed n.services (drone_receives clock datagram n)
drone_receiving clock datagram n =
    receives-did DroneListed (λ s es q. q) drone_both drone_rules clock
    (λ core s from m. changes_quiet from (drone_step true core from m).drone.plans (change_by (drone_step true core from m).event)) (λ core from m. tt) (λ core s from m. tt) datagram n

drone_beating : (clock : ℕ) (n : DroneSide) → Did DroneListed n.services (drone_beats clock n)
drone_beating clock n = with_core-did DroneListed (λ s es q. q) drone_both n.services n.core n.services [] _ (sends-quiet clock (drone_heartbeat (armed n.services.sim)) n.link) tt

drone_ticking : (clock : ℕ) (n : DroneSide) → Did DroneListed n.services (drone_ticks clock n)
drone_ticking clock n = steps-did DroneListed (λ s es q. q) drone_both clock n.link n.services (drone_waits (drone_tick n.core)) tt tt

reached_quiet : (reached : Option ℕ) → AreQuiet (reached_events reached)
reached_quiet None = tt
reached_quiet (Some number) = (tt, tt)

captured_quiet : (captured : Bool) (total : ℕ) → AreQuiet (captured_events captured total)
captured_quiet true total = (tt, tt)
captured_quiet false total = tt

drone_simming : (clock : ℕ) (n : DroneSide) → Did DroneListed n.services (drone_sims clock n)
drone_simming clock n =
    let step = drone_flies n.core n.services in
    let tick = sim_tick n.services.sim n.core.plans.mission (sim_step n.services.server) in
    serves-did DroneListed (λ s es q. q) drone_both clock n.link n.core n.services step
    (quiet-append (reached_events tick.reached) (captured_events tick.captured tick.sim.captures) (reached_quiet tick.reached) (captured_quiet tick.captured tick.sim.captures))

-- ---- a client of parameters

-- once nothing is asked, nothing changes; and where a list has ended, nothing is asked, and its values are those that are known
record Listed (before after : ClientState) (events : List NodeEvent) : Type 0 where
  idle : before.operation ≡ None → (after ≡ before) × AreQuiet events
  ended : AreQuiet events ⊎ ((after.operation ≡ None) × HaveValues (known_values after.values) events)

listed_quiet : (c : ClientState) (es : List NodeEvent) → AreQuiet es → Listed c c es
listed_quiet c es q = record { idle = λ e. (refl, q); ended = inl q }

listed_both : (a b c : ClientState) (xs ys : List NodeEvent) → Listed a b xs → Listed b c ys → Listed a c (xs ++ ys)
listed_both a b c xs ys f g = record {
  idle = λ e. let first = f.idle e in let next = g.idle (ap (λ (s : ClientState). s.operation) first.0 ∙ e) in
      (next.0 ∙ first.0, quiet-append xs ys first.1 next.1);
  ended = by_first f.ended;
}
  where
    by_next : AreQuiet xs → AreQuiet ys ⊎ ((c.operation ≡ None) × HaveValues (known_values c.values) ys) → AreQuiet (xs ++ ys) ⊎ ((c.operation ≡ None) × HaveValues (known_values c.values) (xs ++ ys))
    by_next q (inl h) = inl (quiet-append xs ys q h)
    by_next q (inr h) = inr (h.0, have-append (known_values c.values) xs ys (quiet_have (known_values c.values) xs q) h.1)

    by_first : AreQuiet xs ⊎ ((b.operation ≡ None) × HaveValues (known_values b.values) xs) → AreQuiet (xs ++ ys) ⊎ ((c.operation ≡ None) × HaveValues (known_values c.values) (xs ++ ys))
    by_first (inl q) = by_next q g.ended
    by_first (inr h) =
        let next = g.idle h.0 in
        inr (
          ap (λ (s : ClientState). s.operation) next.0 ∙ h.0,
          subst (λ (s : ClientState). HaveValues (known_values s.values) (xs ++ ys)) (sym next.0)
              (have-append (known_values b.values) xs ys h.1 (quiet_have (known_values b.values) ys next.1)),
        )

-- a step that ends closes what was asked
abbrev Closes : ClientStep → Type 0
Closes step = (end : ParamsEnd) → step.end ≡ Some end → step.client.operation ≡ None

by_test : {A : Type 0} (P : A → Type 0) (test : Bool) (a b : A) → P a → P b → P (if test then a else b)
by_test P true a b h k = h
by_test P false a b h k = k

rests_closes : (c : ClientState) → Closes (rests c)
rests_closes c end e = cc

one_closes : (c : ClientState) (id : List ℕ) (m : ParamValue) → Closes (one_comes c id m)
one_closes c id m = by_test Closes (same_id m.param_id id) _ _ (λ end e. refl) (rests_closes c)

listed_closes : (c : ClientState) (o : Operation) (count : ℕ) (values : List (Option Param)) → Closes (listed c o count values)
listed_closes c o count values = by_test Closes (nat_le count (length (known_values values))) _ _ (λ end e. refl) (rests_closes (record c { values = values; operation = Some o }))

value_closes : (c : ClientState) (o : Operation) (m : ParamValue) → Closes (value_comes c o m)
value_closes c o m =
    by_test Closes (m.param_count == 0) _ _ (listed_closes c o 0 c.values)
    (by_test Closes (nat_lt m.param_index m.param_count) _ _
    (listed_closes c (heard_at o (was_taken c.values m.param_index)) m.param_count (with_value c.values m.param_index (param_in m))) (rests_closes c))

answer_closes : (c : ClientState) (o : Operation) (task : Task) (m : ParamValue) → Closes (answered c o task m)
answer_closes c o (Reads id) m = one_closes c id m
answer_closes c o (Sets_to p) m = one_closes c p.id m
answer_closes c o All_listed m = value_closes c o m

told_closes : (c : ClientState) (o : Option Operation) (from : Stream) (m : ParamValue) → Closes (told c o from m)
told_closes c None from m = rests_closes c
told_closes c (Some o) from m = by_test Closes (same_stream o.drone from) _ _ (answer_closes c o o.task m) (rests_closes c)

message_closes : (c : ClientState) (from : Stream) (m : Message) → Closes (client_step c from m)
message_closes c from (Tells m) = told_closes c c.operation from m
message_closes c from _ = rests_closes c

-- a tick ends no list with values
tick_ends : (c : ClientState) (o : Option Operation) (values : List Param) → (operation_ticks c o).end ≡ Some (All_values values) → ⊥
tick_ends c None values e = cc
tick_ends c (Some o) values e = by_test (λ (s : ClientStep). s.end ≡ Some (All_values values) → ⊥) (nat_lt (o.idle + 1) idle_limit) _ _ (λ h. cc) (λ h. cc) e

listed_by : (c : ClientState) (step : ClientStep) → (c.operation ≡ None → step ≡ rests c) → ((values : List Param) → step.end ≡ Some (All_values values) → (step.client.operation ≡ None) × (known_values step.client.values ≡ values)) → Listed c step.client (params_events step.end)
listed_by c step idle ends = record {
  idle = λ e. let same = idle e in (ap (λ (s : ClientStep). s.client) same, subst (λ (s : ClientStep). AreQuiet (params_events s.end)) (sym same) tt);
  ended = by_end step.end refl;
}
  where
    by_end : (end : Option ParamsEnd) → step.end ≡ end → AreQuiet (params_events end) ⊎ ((step.client.operation ≡ None) × HaveValues (known_values step.client.values) (params_events end))
    by_end None e = inl tt
    by_end (Some (One_value param)) e = inl (tt, tt)
    by_end (Some No_answer) e = inl (tt, tt)
    by_end (Some (All_values values)) e = let h = ends values e in inr (h.0, (sym h.1, tt))

-- ---- a station

abbrev StationListed : StationServices → StationServices → List NodeEvent → Type 0
StationListed before after events = Listed before.client after.client events

station_quiet : (s : StationServices) (es : List NodeEvent) → AreQuiet es → StationListed s s es
station_quiet s es q = listed_quiet s.client es q

station_both : (a b c : StationServices) (xs ys : List NodeEvent) → StationListed a b xs → StationListed b c ys → StationListed a c (xs ++ ys)
station_both a b c xs ys f g = listed_both a.client b.client c.client xs ys f g

commands_quiet : (end : Option CommandEnd) → AreQuiet (command_events end)
commands_quiet None = tt
commands_quiet (Some end) = (tt, tt)

files_quiet : (end : Option FileEnd) → AreQuiet (file_events end)
files_quiet None = tt
files_quiet (Some end) = (tt, tt)

-- commands come before, and files after
around : (before : ClientState) (step : ClientStep) (command : Option CommandEnd) (file : Option FileEnd) → Listed before step.client (params_events step.end) → Listed before step.client ((command_events command ++ params_events step.end) ++ file_events file)
around before step command file l =
    listed_both before step.client step.client (command_events command ++ params_events step.end) (file_events file)
    (listed_both before before step.client (command_events command) (params_events step.end) (listed_quiet before (command_events command) (commands_quiet command)) l)
    (listed_quiet step.client (file_events file) (files_quiet file))

served : (v : StationServices) (from : Stream) (m : Message) → StationListed v (station_serves v from m).services (station_serves v from m).last
served v from m =
    let step = client_step v.client from m in
    around v.client step (commander_step v.commander from m).end (transfer_heard v.files from m).end
    (listed_by v.client step (λ e. idle_message v.client e from m) (λ values e. (message_closes v.client from m (All_values values) e, every_end v.client from m values e)))

waited : (v : StationServices) → StationListed v (station_waits v).services (station_waits v).last
waited v =
    let step = client_tick v.client in
    around v.client step (commander_tick v.commander).end (transfer_waits v.files).end
    (listed_by v.client step (λ e. idle_tick v.client e) (λ values e. absurd (tick_ends v.client v.client.operation values e)))

told_quiet : (told : Option Told) → AreQuiet (told_events told)
told_quiet None = tt
told_quiet (Some told) = (tt, tt)

-- what is asked ends no list
known : {before : ClientState} (after : ClientState) (events : List NodeEvent) → Listed before after events → HaveValues (known_values after.values) events
known after events l = by_end l.ended
  where
    by_end : AreQuiet events ⊎ ((after.operation ≡ None) × HaveValues (known_values after.values) events) → HaveValues (known_values after.values) events
    by_end (inl q) = quiet_have (known_values after.values) events q
    by_end (inr h) = h.1

-- ---- nodes

-- if it is done, each list that ended has the values that the node knows then; a drone lists none
abbrev pub ListsKnown : Outcome Node → Type 0
ListsKnown None = Unit {0}
ListsKnown (Some d) = HaveValues (params_of (Some d.node)) d.events

drone_known : (s : DroneServices) (o : Outcome DroneSide) → Did DroneListed s o → ListsKnown (as_drone o)
drone_known s None h = tt
drone_known s (Some d) h = quiet_have [] d.events h

station_known : (s : StationServices) (o : Outcome StationSide) → Did StationListed s o → ListsKnown (as_station o)
station_known s None h = tt
station_known s (Some d) h = known d.node.services.client d.events h

steps_known : (clock : ℕ) (n : StationSide) (step : StationStep) → Did StationListed n.services (steps clock n.link n.services (station_does step))
steps_known clock n step = steps-did StationListed station_quiet station_both clock n.link n.services (station_does step) tt (told_quiet step.station.outcome)

-- a drone's calls
pub drone_ticks_known : (clock : ℕ) (n : DroneSide) → ListsKnown (as_drone (drone_ticks clock n))
drone_ticks_known clock n = drone_known n.services _ (drone_ticking clock n)

pub drone_beats_known : (clock : ℕ) (n : DroneSide) → ListsKnown (as_drone (drone_beats clock n))
drone_beats_known clock n = drone_known n.services _ (drone_beating clock n)

pub drone_sims_known : (clock : ℕ) (n : DroneSide) → ListsKnown (as_drone (drone_sims clock n))
drone_sims_known clock n = drone_known n.services _ (drone_simming clock n)

pub drone_hears_known : (clock : ℕ) (keeps : List Bool) (packets : List Packet) (n : DroneSide) → ListsKnown (as_drone (hears_keeping drone_rules_keeping clock keeps packets n))
drone_hears_known clock keeps packets n = drone_known n.services _ (drone_hearing clock keeps packets n)

-- and a station's
pub station_ticks_known : (clock : ℕ) (n : StationSide) → ListsKnown (as_station (station_ticks clock n))
station_ticks_known clock n =
    station_known n.services _ (and_then-did StationListed station_quiet station_both n.services (steps clock n.link n.services (station_does (station_tick n.core))) (services_tick clock)
    (steps_known clock n (station_tick n.core)) (λ node. serves-did StationListed station_quiet station_both clock node.link node.core node.services (station_waits node.services) (waited node.services)))

pub station_beats_known : (clock : ℕ) (n : StationSide) → ListsKnown (as_station (station_beats clock n))
station_beats_known clock n =
    station_known n.services _ (with_core-did StationListed station_quiet station_both n.services n.core n.services [] _ (sends-quiet clock station_heartbeat n.link) (station_quiet n.services [] tt))

pub station_hears_known : (clock : ℕ) (packets : List Packet) (n : StationSide) → ListsKnown (as_station (hears_all station_rules clock packets n))
station_hears_known clock packets n =
    station_known n.services _ (hears_all-did StationListed station_quiet station_both station_rules clock (λ core s from m. station_quiet s [] tt)
    (λ core from m. told_quiet (station_step core from m).station.outcome) (λ core s from m. served s from m) packets n)

-- the calls of either
pub receives_known : (clock : ℕ) (datagram : List ℕ) (node : Node) → ListsKnown (node_receives clock datagram node)
receives_known clock datagram (Drone n) = drone_known n.services _ (drone_receiving clock datagram n)
receives_known clock datagram (Station n) = station_hears_known clock (frames_of (final_parse n.link.extras false datagram)) n

pub beats_known : (clock : ℕ) (node : Node) → ListsKnown (node_beats clock node)
beats_known clock (Drone n) = drone_beats_known clock n
beats_known clock (Station n) = station_beats_known clock n

pub ticks_known : (clock : ℕ) (node : Node) → ListsKnown (node_ticks clock node)
ticks_known clock (Drone n) = drone_ticks_known clock n
ticks_known clock (Station n) = station_ticks_known clock n

pub flies_known : (clock : ℕ) (node : Node) → ListsKnown (node_flies clock node)
flies_known clock (Drone n) = drone_sims_known clock n
flies_known clock (Station n) = tt

order_known : (clock : ℕ) (n : StationSide) (step : StationStep) → ListsKnown (as_station (steps clock n.link n.services (station_does step)))
order_known clock n step = station_known n.services _ (steps_known clock n step)

-- a step of the services without an event
silent_known : (clock : ℕ) (n : StationSide) (services : StationServices) (answers : List Message) → ListsKnown (as_station (serves clock n.link n.core (record { services = services; answers = answers; last = [] })))
silent_known clock n services answers = by_link (sends_all clock answers n.link) (sends_all-quiet clock answers n.link)
  where
    by_link : (o : Outcome Link) → QuietLink o → ListsKnown (as_station (with_core n.core services [] o))
    by_link None q = tt
    by_link (Some d) q = quiet_have (known_values services.client.values) (d.events ++ []) (quiet-append d.events [] q tt)

pub obeys_known : (clock : ℕ) (order : Order) (n : StationSide) → ListsKnown (as_station (station_obeys clock order n))
obeys_known clock (Begin drone kind plan) n = order_known clock n (begin_upload n.core drone (number_of kind) (items_of plan))
obeys_known clock Cancel n = order_known clock n (station_cancel n.core)
obeys_known clock (Clear drone kind) n = order_known clock n (begin_clear n.core drone (clear_number kind))
obeys_known clock (Get drone kind) n = order_known clock n (begin_get n.core drone (number_of kind))
obeys_known clock (Command drone number word) n =
    let step = asks_command n.services (commands n.services.commander drone (command_of number word)) in silent_known clock n step.services step.answers
obeys_known clock (ParamRead drone id) n = let step = asks_params n.services (reads n.services.client drone id) in silent_known clock n step.services step.answers
obeys_known clock (ParamSet drone param) n = let step = asks_params n.services (sets n.services.client drone param) in silent_known clock n step.services step.answers
obeys_known clock (ParamList drone) n = let step = asks_params n.services (lists n.services.client drone) in silent_known clock n step.services step.answers
obeys_known clock (File drone op) n = let step = asks_file n.services (begins n.services.files drone (file_order op)) in silent_known clock n step.services step.answers
