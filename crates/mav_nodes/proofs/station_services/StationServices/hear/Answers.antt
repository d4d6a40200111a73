use Rattle.std.proofs.Common.{◌≡◌, ◌++◌, [], ℕ, Bool, true, false, if◌then◌else◌, List, subst, Option, Some, None, map, refl, sym, ap, ◌∙◌}
use Rattle.std.specs.Prelude.{option_map, ◌==◌, nat_lt, nat_le, length}
use Rattle.std.proofs.lemmas.List.{map-append}
use Rattle.std.proofs.lemmas.Result.{err_from_is_err_and}
use Rattle.mav_names.specs.declared.names.Stream.{Stream}
use Rattle.mav_names.specs.Addresses.{same_stream}
use Rattle.mav_messages.specs.declared.messages.Message.{Message}
use Rattle.mav_messages.specs.declared.messages.Message.TheVariants.{Heartbeat, Ping, ParamRequestRead, ParamRequestList, ParamValue, ParamSet, GlobalPositionInt, MissionCurrent, MissionRequestList, MissionCount, MissionClearAll, MissionItemReached, MissionAck, MissionRequestInt, MissionItemInt, CommandLong, CommandAck, FileTransferProtocol, Statustext}
use Rattle.command_proto.specs.Commander.{CommanderState, CommanderStep, CommandEnd, Result, commander_step, ack_comes, acknowledged, counts, waits_on}
use Rattle.param_proto.specs.Client.{ClientState, ClientStep, Operation, Task, Reads, Sets_to, All_listed, client_step, told, answered, value_comes, one_comes, listed, heard_at, was_taken, with_value, param_in, known_values, rests}
use Rattle.param_proto.specs.Params.{same_id}
use Rattle.command_proto.specs.declared.commands.Issue.{Issue}
use Rattle.param_proto.specs.Ends.{end_told}
use Rattle.param_proto.specs.declared.ends.ParamEnd.{ParamEnd}
use Rattle.param_proto.specs.declared.params.Param.{Param}
use Rattle.mav_messages.specs.declared.commands.CommandAck.{CommandAck as Ack}
use Rattle.mav_messages.specs.declared.params.ParamValue.{ParamValue as Value}
use Rattle.mav_nodes.specs.declared.news.News.{News}
use Rattle.mav_nodes.specs.News.{shown, Shown, events_of}
use Rattle.mav_nodes.specs.Services.{StationServices, sent_of, command_events, params_events}
use Rattle.mav_nodes.specs.Returned.{shown_of_result, shown_of_end}
use Rattle.mav_nodes.proofs.station_services.StationServices.hear.Goals as goal

by_test : {A : Type 0} (P : A → Type 0) (b : Bool) (x y : A) → P x → P y → P (if b then x else y)
by_test P true x y f g = f
by_test P false x y f g = g

-- a commander replies to no message
unanswered : (c : CommanderState) (issue : Option Issue) (from : Stream) (m : Ack) → (ack_comes c issue from m).answer ≡ None
unanswered c None from m = refl
unanswered c (Some i) from m =
    by_test (λ (s : CommanderStep). s.answer ≡ None) (counts c.me i from m) (acknowledged c i m.result) (waits_on c) (by_test (λ (s : CommanderStep). s.answer ≡ None) (m.result == 5) _ _ refl refl) refl

no_command : (c : CommanderState) (from : Stream) (m : Message) → (commander_step c from m).answer ≡ None
no_command c from (Heartbeat m) = refl
no_command c from (Ping m) = refl
no_command c from (ParamRequestRead m) = refl
no_command c from (ParamRequestList m) = refl
no_command c from (ParamValue m) = refl
no_command c from (ParamSet m) = refl
no_command c from (GlobalPositionInt m) = refl
no_command c from (MissionCurrent m) = refl
no_command c from (MissionRequestList m) = refl
no_command c from (MissionCount m) = refl
no_command c from (MissionClearAll m) = refl
no_command c from (MissionItemReached m) = refl
no_command c from (MissionAck m) = refl
no_command c from (MissionRequestInt m) = refl
no_command c from (MissionItemInt m) = refl
no_command c from (CommandLong m) = refl
no_command c from (CommandAck m) = unanswered c c.issue from m
no_command c from (FileTransferProtocol m) = refl
no_command c from (Statustext m) = refl

-- nor does a client, and with one it doesn't end for want of an answer
abbrev Heard : ClientStep → Type 0
Heard s = (s.answer ≡ None) × (map shown (params_events s.end) ≡ shown_of_end (end_told s.end))

listed_so : (c : ClientState) (o : Operation) (count : ℕ) (values : List (Option Param)) → Heard (listed c o count values)
listed_so c o count values = by_test Heard (nat_le count (length (known_values values))) _ _ (refl, refl) (refl, refl)

one_so : (c : ClientState) (id : List ℕ) (m : Value) → Heard (one_comes c id m)
one_so c id m = by_test Heard (same_id m.param_id id) _ _ (refl, refl) (refl, refl)

value_so : (c : ClientState) (o : Operation) (m : Value) → Heard (value_comes c o m)
value_so c o m =
    by_test Heard (m.param_count == 0) _ _ (listed_so c o 0 c.values)
    (by_test Heard (nat_lt m.param_index m.param_count) _ _ (listed_so c (heard_at o (was_taken c.values m.param_index)) m.param_count (with_value c.values m.param_index (param_in m))) (refl, refl))

answered_so : (c : ClientState) (o : Operation) (task : Task) (m : Value) → Heard (answered c o task m)
answered_so c o (Reads id) m = one_so c id m
answered_so c o (Sets_to p) m = one_so c p.id m
answered_so c o All_listed m = value_so c o m

told_so : (c : ClientState) (operation : Option Operation) (from : Stream) (m : Value) → Heard (told c operation from m)
told_so c None from m = (refl, refl)
told_so c (Some o) from m = by_test Heard (same_stream o.drone from) (answered c o o.task m) (rests c) (answered_so c o o.task m) (refl, refl)

heard_so : (c : ClientState) (from : Stream) (m : Message) → Heard (client_step c from m)
heard_so c from (Heartbeat m) = (refl, refl)
heard_so c from (Ping m) = (refl, refl)
heard_so c from (ParamRequestRead m) = (refl, refl)
heard_so c from (ParamRequestList m) = (refl, refl)
heard_so c from (ParamValue m) = told_so c c.operation from m
heard_so c from (ParamSet m) = (refl, refl)
heard_so c from (GlobalPositionInt m) = (refl, refl)
heard_so c from (MissionCurrent m) = (refl, refl)
heard_so c from (MissionRequestList m) = (refl, refl)
heard_so c from (MissionCount m) = (refl, refl)
heard_so c from (MissionClearAll m) = (refl, refl)
heard_so c from (MissionItemReached m) = (refl, refl)
heard_so c from (MissionAck m) = (refl, refl)
heard_so c from (MissionRequestInt m) = (refl, refl)
heard_so c from (MissionItemInt m) = (refl, refl)
heard_so c from (CommandLong m) = (refl, refl)
heard_so c from (CommandAck m) = (refl, refl)
heard_so c from (FileTransferProtocol m) = (refl, refl)
heard_so c from (Statustext m) = (refl, refl)

result_shown : (ended : Option ℕ) (end : Option CommandEnd) → option_map Result ended ≡ end → map shown (command_events end) ≡ shown_of_result ended
result_shown None end e = ap (λ (o : Option CommandEnd). map shown (command_events o)) (sym e)
result_shown (Some result) end e = ap (λ (o : Option CommandEnd). map shown (command_events o)) (sym e)

-- what they both send and end
nothing_sent : (c : CommanderState) (p : ClientState) (from : Stream) (m : Message) → sent_of (commander_step c from m).answer ++ sent_of (client_step p from m).answer ≡ []
nothing_sent c p from m =
    ap (λ (o : Option Message). sent_of o ++ sent_of (client_step p from m).answer) (no_command c from m) ∙ ap sent_of (heard_so p from m).0

both_end : (c : CommanderState) (p : ClientState) (from : Stream) (m : Message) (ended : Option ℕ) (end : Option ParamEnd) → option_map Result ended ≡ (commander_step c from m).end → end ≡ end_told (client_step p from m).end
    → map shown (command_events (commander_step c from m).end ++ params_events (client_step p from m).end) ≡ shown_of_result ended ++ shown_of_end end
both_end c p from m ended end e f =
    map-append shown (command_events (commander_step c from m).end) (params_events (client_step p from m).end)
    ∙ (ap (λ (l : List Shown). l ++ map shown (params_events (client_step p from m).end)) (result_shown ended (commander_step c from m).end e)
    ∙ ap (λ (l : List Shown). shown_of_result ended ++ l) ((heard_so p from m).1 ∙ ap shown_of_end (sym f)))

services_are : (inside v : StationServices) (from : Stream) (m : Message) (commander : CommanderState) (client : ClientState) → inside ≡ v → commander ≡ (commander_step inside.commander from m).commander → client ≡ (client_step inside.client from m).client
    → ◌≡◌ {A = StationServices} (record { commander = commander; client = client; files = inside.files }) (record v { commander = (commander_step v.commander from m).commander; client = (client_step v.client from m).client })
services_are inside v from m commander client view e f =
    subst (λ (w : StationServices). ◌≡◌ {A = StationServices} (record { commander = commander; client = client; files = inside.files }) (record w { commander = (commander_step w.commander from m).commander; client = (client_step w.client from m).client })) view
    (ap (λ (x : CommanderState). record inside { commander = x; client = client }) e ∙ ap (λ (x : ClientState). record inside { commander = (commander_step inside.commander from m).commander; client = x }) f)

pub returns-in_err-tell_result : goal.returns-in_err-tell_result
returns-in_err-tell_result c =
    let p = err_from_is_err_and c.from_residual.result c.from_residual.ensures.1 in
    rw p.1 tt

pub returns-in_err-tell_end : goal.returns-in_err-tell_end
returns-in_err-tell_end c =
    let p = err_from_is_err_and c.from_residual-in_err-tell_end.result c.from_residual-in_err-tell_end.ensures.1 in
    rw p.1 tt

pub returns : goal.returns
returns c =
    let v = c.args.self.now in
    let from = c.args.from in
    let m = c.args.message.now in
    let commander = ap (λ (w : StationServices). w.commander) c.self.view_is in
    let client = ap (λ (w : StationServices). w.client) c.self.view_is in
    record {
      services = services_are (record { commander = c.self.inside.commander; client = c.self.inside.client; files = c.self.inside.files }) v from m c.step.new.self c.step-2.new.self c.self.view_is c.step.ensures.commander c.step-2.ensures.client;
      answers = c.new.ensures.items ∙ sym (nothing_sent v.commander v.client from m);
      last =
          c.in_ok-tell_end.ensures ∙ (ap (λ (l : List Shown). l ++ shown_of_end c.step-2.result) (c.in_ok-tell_result.ensures ∙ ap (λ (l : List News). events_of l ++ shown_of_result c.step.result) c.new-last.ensures.items)
          ∙ sym (both_end v.commander v.client from m c.step.result c.step-2.result (c.step.ensures.end ∙ ap (λ (x : CommanderState). (commander_step x from m).end) commander) (c.step-2.ensures.end ∙ ap (λ (x : ClientState). end_told (client_step x from m).end) client)));
    }
