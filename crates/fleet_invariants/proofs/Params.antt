-- How many answers a drone's parameters have, and that they, and what a station asks of parameters, can be sent.
use Rattle.std.proofs.Common.{◌≡◌, ℕ, ℤ, zero, suc, pos, negsuc, ◌+◌, ◌*◌, ◌%◌, ◌^◌, ◌<◌, ◌≤◌, Bool, true, false, ◌==◌, ◌&&◌, ◌||◌, nat_lt, List, [], ◌∷◌, length, map, slice_get, Option, Some, None, IfSome, refl, sym, ap, subst, arith, ◌∙◌}
use Rattle.std.specs.Prelude.{All, nat_le}
use Rattle.std.proofs.lemmas.List.Elements.{All-nil, All-cons, All-head, All-tail}
use Rattle.mav_names.specs.declared.names.Name.{Name}
use Rattle.mav_names.specs.declared.names.Stream.{Stream}
use Rattle.mav_names.specs.Addresses.{same_stream, is_for_node}
use Rattle.mav_messages.specs.declared.params.ParamRequestRead.{ParamRequestRead}
use Rattle.mav_messages.specs.declared.params.ParamSet.{ParamSet}
use Rattle.mav_messages.specs.declared.params.ParamValue.{ParamValue}
use Rattle.mav_messages.specs.declared.messages.Message.{Message}
use Rattle.mav_messages.specs.declared.messages.Message.TheVariants.{Heartbeat, Ping, ParamRequestRead as Requests, ParamRequestList as Lists, ParamSet as Sets, ParamValue as Tells, GlobalPositionInt, MissionCurrent, MissionRequestList, MissionCount, MissionClearAll, MissionItemReached, MissionAck, MissionRequestInt, MissionItemInt, CommandLong, CommandAck, FileTransferProtocol, Statustext}
use Rattle.mav_messages.specs.Plans.{plan_of}
use Rattle.param_proto.specs.declared.params.Param.{Param}
use Rattle.param_proto.specs.Params.{same_id, narrowed, normal}
use Rattle.param_proto.specs.Ranges.{ParamInRange, MessageInRange}
use Rattle.param_proto.specs.Server.{ServerState, values_from, value_of, value_at, place_of, asked_for, with_word, set_at, params_set, serves, value_set, if_for, server_step}
use Rattle.param_proto.specs.Client.{Task, Reads, Sets_to, All_listed, Operation, ClientState, ClientStep, idle_limit, known_values, with_value, was_taken, no_id, read_message, list_message, asks_all, request_of, rests, param_in, one_comes, listed, heard_at, value_comes, answered, told, client_step, operation_ticks, client_tick}
use Rattle.param_proto.proofs.ParamRanges.{normal_in_range}
use Rattle.mav_nodes.specs.Payloads.{ItemFits, ServiceFits}
use Rattle.mav_nodes.specs.Laws.{FitsMessage}
use Rattle.fleet_invariants.specs.Services.{param_count}
use Rattle.fleet_invariants.proofs.Tests.{by_test, less}
use Rattle.fleet_invariants.proofs.Lists.{set_length}

-- a message that fits its payload, and is none of the mission protocol
pub record Sendable (m : Message) : Type 0 where
  pub fits : FitsMessage m
  pub no_plan : plan_of m ≡ None

abbrev pub AllSendable : List Message → Type 0
AllSendable [] = Unit {0}
AllSendable (m ∷ ms) = Sendable m × AllSendable ms

-- a message of the parameter protocol
abbrev pub IsOfParams : Message → Type 0
IsOfParams (Requests m) = Unit {0}
IsOfParams (Lists m) = Unit {0}
IsOfParams (Sets m) = Unit {0}
IsOfParams (Tells m) = Unit {0}
IsOfParams _ = ⊥

service_fits : (m : Message) → IsOfParams m → MessageInRange m → ServiceFits m
service_fits (Requests m) is h = h.index
service_fits (Lists m) is h = tt
service_fits (Sets m) is h = tt
service_fits (Tells m) is h = tt
service_fits (Heartbeat m) is h = absurd is
service_fits (Ping m) is h = absurd is
service_fits (GlobalPositionInt m) is h = absurd is
service_fits (MissionCurrent m) is h = absurd is
service_fits (MissionRequestList m) is h = absurd is
service_fits (MissionCount m) is h = absurd is
service_fits (MissionClearAll m) is h = absurd is
service_fits (MissionItemReached m) is h = absurd is
service_fits (MissionAck m) is h = absurd is
service_fits (MissionRequestInt m) is h = absurd is
service_fits (MissionItemInt m) is h = absurd is
service_fits (CommandLong m) is h = absurd is
service_fits (CommandAck m) is h = absurd is
service_fits (FileTransferProtocol m) is h = absurd is
service_fits (Statustext m) is h = absurd is

sendable_of : (m : Message) → IsOfParams m → MessageInRange m → Sendable m
sendable_of m is h = record {
  fits = record { values = h.fits; item = subst ItemFits (sym h.other) tt; service = service_fits m is h };
  no_plan = h.other;
}

-- ---- a server's answers: few, and of the protocol

abbrev pub AllOfParams : List Message → Type 0
AllOfParams [] = Unit {0}
AllOfParams (m ∷ ms) = IsOfParams m × AllOfParams ms

pub all_sendable : (ms : List Message) → AllOfParams ms → All MessageInRange ms → AllSendable ms
all_sendable [] are h = tt
all_sendable (m ∷ ms) are h = (sendable_of m are.0 (All-head MessageInRange m ms h), all_sendable ms are.1 (All-tail MessageInRange m ms h))

values_length : (count index : ℕ) (ps : List Param) → length (values_from count index ps) ≡ length ps
values_length count index [] = refl
values_length count index (p ∷ ps) = ap suc (values_length count (index + 1) ps)

values_are : (count index : ℕ) (ps : List Param) → AllOfParams (values_from count index ps)
values_are count index [] = tt
values_are count index (p ∷ ps) = (tt, values_are count (index + 1) ps)

pub record Answers (s : ServerState) : Type 0 where
  pub count : length s.params ≡ param_count
  pub few : length s.waiting ≤ param_count
  pub are : AllOfParams s.waiting

abbrev Few : List Message → Type 0
Few ms = (length ms ≤ param_count) × AllOfParams ms

none_waits : Few []
none_waits = (omega arith, tt)

value_there : (count index : ℕ) (o : Option Param) → Few (value_of count index o)
value_there count index None = none_waits
value_there count index (Some p) = (omega arith, (tt, tt))

value_found : (ps : List Param) (place : Option ℕ) → Few (value_at ps place)
value_found ps None = none_waits
value_found ps (Some index) = value_there (length ps) index (slice_get ps index)

value_asked : (ps : List Param) (m : ParamRequestRead) (index : ℤ) → Few (asked_for ps m index)
value_asked ps m (pos index) = value_found ps (Some index)
value_asked ps m (negsuc zero) = value_found ps (place_of ps m.param_id)
value_asked ps m (negsuc (suc n)) = none_waits

set_there : (ps : List Param) (m : ParamSet) (index : ℕ) (o : Option Param) → length (set_at ps m index o) ≡ length ps
set_there ps m index None = refl
set_there ps m index (Some p) = set_length ps index (with_word p m)

all_there : (ps : List Param) (m : ParamSet) (place : Option ℕ) → length (params_set ps m place) ≡ length ps
all_there ps m None = refl
all_there ps m (Some index) = set_there ps m index (slice_get ps index)

answering : (ps : List Param) (ms : List Message) → length ps ≡ param_count → Few ms → Answers (serves ps ms)
answering ps ms count h = record { count = count; few = h.0; are = h.1 }

module _ (s : ServerState) (count : length s.params ≡ param_count) (me : Name) where
  still : Answers (serves s.params [])
  still = answering s.params [] count none_waits

  for_me : (b : Bool) (t : ServerState) → Answers t → Answers (if_for b s t)
  for_me b t k = by_test Answers b t (serves s.params []) (λ _. k) (λ _. still)

  pub served : (m : Message) → Answers (server_step s me m)
  served (Requests m) =
      for_me (is_for_node me (record { sys = m.target_system; comp = m.target_component })) (serves s.params (asked_for s.params m m.param_index)) (answering s.params _ count (value_asked s.params m m.param_index))
  served (Lists m) =
      for_me (is_for_node me (record { sys = m.target_system; comp = m.target_component })) (serves s.params (values_from (length s.params) 0 s.params))
      (answering s.params _ count ((let e = values_length (length s.params) 0 s.params in omega (arith, count, e)), values_are (length s.params) 0 s.params))
  served (Sets m) =
      let place = place_of s.params m.param_id in
      for_me (is_for_node me (record { sys = m.target_system; comp = m.target_component })) (value_set s m place)
      (answering (params_set s.params m place) _ (all_there s.params m place ∙ count) (value_found (params_set s.params m place) place))
  served _ = still

-- ---- a client stays its node's, and asks in the protocol

pub record ClientGoes (me : Name) (t : ClientStep) : Type 0 where
  pub me_is : t.client.me ≡ me
  pub asks : IfSome t.answer IsOfParams

module _ (c : ClientState) where
  abbrev Goes : ClientStep → Type 0
  Goes = ClientGoes c.me

  quiet : Goes (rests c)
  quiet = record { me_is = refl; asks = tt }

  all_listed : (o : Operation) (count : ℕ) (values : List (Option Param)) → Goes (listed c o count values)
  all_listed o count values =
      by_test Goes (nat_le count (length (known_values values))) _ _ (λ _. record { me_is = refl; asks = tt }) (λ _. record { me_is = refl; asks = tt })

  value_told : (o : Operation) (m : ParamValue) → Goes (value_comes c o m)
  value_told o m =
      by_test Goes (m.param_count == 0) _ _ (λ _. all_listed o 0 c.values) (λ _.
      by_test Goes (nat_lt m.param_index m.param_count) _ (rests c)
      (λ _. all_listed (heard_at o (was_taken c.values m.param_index)) m.param_count (with_value c.values m.param_index (param_in m))) (λ _. quiet))

  one_told : (id : List ℕ) (m : ParamValue) → Goes (one_comes c id m)
  one_told id m = by_test Goes (same_id m.param_id id) _ (rests c) (λ _. record { me_is = refl; asks = tt }) (λ _. quiet)

  task_told : (o : Operation) (task : Task) (m : ParamValue) → Goes (answered c o task m)
  task_told o (Reads id) m = one_told id m
  task_told o (Sets_to p) m = one_told p.id m
  task_told o All_listed m = value_told o m

  operation_told : (o : Option Operation) (from : Stream) (m : ParamValue) → Goes (told c o from m)
  operation_told None from m = quiet
  operation_told (Some o) from m =
      by_test Goes (same_stream o.drone from) (answered c o o.task m) (rests c) (λ _. task_told o o.task m) (λ _. quiet)

  pub client_hears : (from : Stream) (m : Message) → Goes (client_step c from m)
  client_hears from (Tells m) = operation_told c.operation from m
  client_hears from _ = quiet

  asked : (drone : Stream) (task : Task) → IsOfParams (request_of drone task c.values)
  asked drone (Reads id) = tt
  asked drone (Sets_to p) = tt
  asked drone All_listed =
      by_test IsOfParams (asks_all c.values) (list_message drone) (read_message drone no_id (pos (length (known_values c.values)))) (λ _. tt) (λ _. tt)

  waits : (o : Option Operation) → Goes (operation_ticks c o)
  waits None = quiet
  waits (Some o) =
      by_test Goes (nat_lt (o.idle + 1) idle_limit) _ _ (λ _. record { me_is = refl; asks = asked o.drone o.task }) (λ _. record { me_is = refl; asks = tt })

  pub client_waits : Goes (client_tick c)
  client_waits = waits c.operation

pub one_asked : (o : Option Message) → IfSome o IsOfParams → IfSome o MessageInRange → IfSome o Sendable
one_asked None is h = tt
one_asked (Some m) is h = sendable_of m is h

-- ---- a drone's parameters

-- a test of ids and types, for parameters that are written out
abbrev all_small : List ℕ → Bool
all_small [] = true
all_small (b ∷ bs) = nat_lt b 256 && all_small bs

abbrev is_good : Param → Bool
is_good p = (length p.id == 16) && (all_small p.id && nat_lt p.ty 256)

abbrev all_good : List Param → Bool
all_good [] = true
all_good (p ∷ ps) = is_good p && all_good ps

both : (a b : Bool) → (a && b) ≡ true → (a ≡ true) × (b ≡ true)
both true true e = (refl, refl)
both true false e = absurd (cc)
both false b e = absurd (cc)

abbrev IsByte : ℕ → Type 0
IsByte b = b < 256

all_bytes : (bs : List ℕ) → all_small bs ≡ true → All IsByte bs
all_bytes [] e = All-nil IsByte
all_bytes (b ∷ bs) e = let h = both _ _ e in All-cons IsByte b bs (less b 256 h.0) (all_bytes bs h.1)

same_number : (a b : ℕ) → (a == b) ≡ true → a ≡ b
same_number a b e = grind arith

narrowed_small : (ty word : ℕ) → narrowed ty word < 2 ^ 32
narrowed_small ty word =
    by_test (λ (w : ℕ). word % 2 ^ (8 * w) < 2 ^ 32) ((ty == 1) || (ty == 2)) _ _ (λ _. omega arith) (λ _.
    by_test (λ (w : ℕ). word % 2 ^ (8 * w) < 2 ^ 32) ((ty == 3) || (ty == 4)) _ _ (λ _. omega arith) (λ _. omega arith))

good_normal : (p : Param) → is_good p ≡ true → ParamInRange (normal p)
good_normal p e =
    let h = both _ _ e in
    let k = both _ _ h.1 in
    let unset : ParamInRange (record p { word = 0 }) = record {
      id = record { size = same_number (length p.id) 16 h.0; bytes = all_bytes p.id k.0 };
      ty = less p.ty 256 k.1;
      word = omega arith;
    } in
    let n = normal_in_range (record p { word = 0 }) unset in
    record { id = n.id; ty = n.ty; word = narrowed_small p.ty p.word }

pub all_normal : (ps : List Param) → all_good ps ≡ true → All ParamInRange (map normal ps)
all_normal [] e = All-nil ParamInRange
all_normal (p ∷ ps) e = let h = both _ _ e in All-cons ParamInRange (normal p) (map normal ps) (good_normal p h.0) (all_normal ps h.1)
