-- What a payload carries is what is read from it.
use Rattle.std.proofs.Common.{◌≡◌, ℕ, ◌==◌, Bool, true, false, List, [], ◌∷◌, Option, Some, None, refl, sym, ap, ◌∙◌, subst, arith, if◌then◌else◌}
use Rattle.std.specs.Prelude.{find}
use Rattle.std.proofs.lemmas.Bool.Decides.{nat_tests}
use Rattle.field_layout.specs.Definition.{Definition}
use Rattle.field_layout.specs.Payload.{Represents}
use Rattle.field_layout.proofs.Unique.{one_list}
use Rattle.field_layout.proofs.Decoding.{IsBytes, decoded_all, decoded_represents}
use Rattle.mav_profile.specs.Profile.{profile_definitions, ping_definition, mission_request_list_definition, mission_count_definition, mission_clear_all_definition, mission_ack_definition, mission_request_int_definition, mission_item_int_definition, param_request_read_definition, param_request_list_definition, param_value_definition, param_set_definition, command_long_definition, command_ack_definition, file_transfer_protocol_definition}
use Rattle.plan_items.specs.declared.messages.PlanMsg.TheVariants as plan
use Rattle.mav_messages.specs.declared.messages.Message.{Message}
use Rattle.mav_messages.specs.declared.messages.Message.TheVariants.{Heartbeat, Ping, ParamRequestRead, ParamRequestList, ParamValue, ParamSet, GlobalPositionInt, MissionCurrent, MissionRequestList, MissionCount, MissionClearAll, MissionItemReached, MissionAck, MissionRequestInt, MissionItemInt, CommandLong, CommandAck, FileTransferProtocol, Statustext}
use Rattle.mav_messages.specs.Messages.{profile_definition, definition_of, values_of}
use Rattle.mav_messages.specs.Plans.{plan_of}
use Rattle.mav_nodes.specs.Payloads.{ItemFits, ping_in, list_in, count_in, clear_in, ack_in, request_in, item_in, plan_in, ServiceFits, param_read_in, param_list_in, param_value_in, param_set_in, command_in, command_ack_in, file_in, service_in, service_of}

values_are : (def : Definition) (payload : List ℕ) → IsBytes payload → (values : List (List ℕ)) → Represents def payload values → values ≡ decoded_all def payload
values_are def payload bytes values of =
    one_list def payload values (decoded_all def payload) of (decoded_represents def payload bytes)

pub plan_read : (m : Message) (payload : List ℕ) → IsBytes payload → ItemFits (plan_of m) → Represents (definition_of m) payload (values_of m) → plan_of m ≡ plan_in (definition_of m).id payload
plan_read (Heartbeat m) payload bytes fits of = refl
plan_read (Ping m) payload bytes fits of =
    ap (λ (v : List (List ℕ)). Some (ping_in v)) (values_are ping_definition payload bytes (values_of (Ping m)) of)
plan_read (ParamRequestRead m) payload bytes fits of = refl
plan_read (ParamRequestList m) payload bytes fits of = refl
plan_read (ParamValue m) payload bytes fits of = refl
plan_read (ParamSet m) payload bytes fits of = refl
plan_read (GlobalPositionInt m) payload bytes fits of = refl
plan_read (MissionCurrent m) payload bytes fits of = refl
plan_read (MissionRequestList m) payload bytes fits of =
    ap (λ (v : List (List ℕ)). Some (list_in v)) (values_are mission_request_list_definition payload bytes (values_of (MissionRequestList m)) of)
plan_read (MissionCount m) payload bytes fits of =
    ap (λ (v : List (List ℕ)). Some (count_in v)) (values_are mission_count_definition payload bytes (values_of (MissionCount m)) of)
plan_read (MissionClearAll m) payload bytes fits of =
    ap (λ (v : List (List ℕ)). Some (clear_in v)) (values_are mission_clear_all_definition payload bytes (values_of (MissionClearAll m)) of)
plan_read (MissionItemReached m) payload bytes fits of = refl
plan_read (MissionAck m) payload bytes fits of =
    ap (λ (v : List (List ℕ)). Some (ack_in v)) (values_are mission_ack_definition payload bytes (values_of (MissionAck m)) of)
plan_read (MissionRequestInt m) payload bytes fits of =
    ap (λ (v : List (List ℕ)). Some (request_in v)) (values_are mission_request_int_definition payload bytes (values_of (MissionRequestInt m)) of)
plan_read (MissionItemInt m) payload bytes fits of =
    (λ i. Some (plan.Item (record { sys = m.target_system; comp = m.target_component }) m.seq m.mission_type (record {
      frame = m.frame;
      command = m.command;
      current = m.current;
      autocontinue = m.autocontinue;
      p = m.param1 ∷ m.param2 ∷ m.param3 ∷ m.param4 ∷ [];
      x = sym fits.0 i;
      y = sym fits.1 i;
      z = m.z;
    })))
    ∙ ap (λ (v : List (List ℕ)). Some (item_in v)) (values_are mission_item_int_definition payload bytes (values_of (MissionItemInt m)) of)
plan_read (CommandLong m) payload bytes fits of = refl
plan_read (CommandAck m) payload bytes fits of = refl
plan_read (FileTransferProtocol m) payload bytes fits of = refl
plan_read (Statustext m) payload bytes fits of = refl

found_first : (id : ℕ) (d def : Definition) (rest : Option Definition) (t : Bool) → (d.id == id) ≡ t → (rest ≡ Some def → def.id ≡ id) → (if t then Some d else rest) ≡ Some def → def.id ≡ id
found_first id d def rest true test next e =
    let same : d ≡ def = cc in ap (λ (z : Definition). z.id) (sym same) ∙ (let t : d.id ≡ id = grind (arith, nat_tests) in t)
found_first id d def rest false test next e = next e

-- what is found has that id
found : (id : ℕ) (defs : List Definition) (def : Definition) → find (λ (d : Definition). d.id == id) defs ≡ Some def → def.id ≡ id
found id [] def e = absurd (let t : ◌≡◌ {A = Option Definition} None (Some def) = e in cc)
found id (d ∷ ds) def e =
    found_first id d def (find (λ (z : Definition). z.id == id) ds) (d.id == id) refl (found id ds def) e

-- the plan message of a frame, by the message that was read
pub plan_carried : (id : ℕ) (payload : List ℕ) (m : Message) → IsBytes payload → ItemFits (plan_of m) → profile_definition id ≡ Some (definition_of m) → Represents (definition_of m) payload (values_of m) → plan_in id payload ≡ plan_of m
plan_carried id payload m bytes fits is of =
    ap (λ (n : ℕ). plan_in n payload) (sym (found id profile_definitions (definition_of m) is)) ∙ sym (plan_read m payload bytes fits of)

at_test : (id k : ℕ) (t : Bool) → profile_definition id ≡ None → (id == k) ≡ t → (profile_definition k ≡ None → ⊥) → t ≡ false
at_test id k false none test some = refl
at_test id k true none test some =
    let same : id ≡ k = grind (arith, nat_tests) in absurd (some (subst (λ (n : ℕ). profile_definition n ≡ None) same none))

differs : (id k : ℕ) → profile_definition id ≡ None → (profile_definition k ≡ None → ⊥) → (id == k) ≡ false
differs id k none some = at_test id k (id == k) none refl some

known : (def : Definition) → ◌≡◌ {A = Option Definition} (Some def) None → ⊥
known def e = cc

-- a frame of another id carries no plan message
pub none_carried : (id : ℕ) (payload : List ℕ) → profile_definition id ≡ None → plan_in id payload ≡ None
none_carried id payload none =
    let d4 = differs id 4 none (known ping_definition) in
    let d43 = differs id 43 none (known mission_request_list_definition) in
    let d44 = differs id 44 none (known mission_count_definition) in
    let d45 = differs id 45 none (known mission_clear_all_definition) in
    let d47 = differs id 47 none (known mission_ack_definition) in
    let d51 = differs id 51 none (known mission_request_int_definition) in
    let d73 = differs id 73 none (known mission_item_int_definition) in
    rw (d4, d43, d44, d45, d47, d51, d73) refl

-- ---- other services

pub service_read : (m : Message) (payload : List ℕ) → IsBytes payload → ServiceFits m → Represents (definition_of m) payload (values_of m) → service_of m ≡ service_in (definition_of m).id payload
service_read (Heartbeat m) payload bytes fits of = refl
service_read (Ping m) payload bytes fits of = refl
service_read (ParamRequestRead m) payload bytes fits of =
    (λ i. Some (ParamRequestRead (record { target_system = m.target_system; target_component = m.target_component; param_id = m.param_id; param_index = sym fits i })))
    ∙ ap (λ (v : List (List ℕ)). Some (param_read_in v)) (values_are param_request_read_definition payload bytes (values_of (ParamRequestRead m)) of)
service_read (ParamRequestList m) payload bytes fits of =
    ap (λ (v : List (List ℕ)). Some (param_list_in v)) (values_are param_request_list_definition payload bytes (values_of (ParamRequestList m)) of)
service_read (ParamValue m) payload bytes fits of =
    ap (λ (v : List (List ℕ)). Some (param_value_in v)) (values_are param_value_definition payload bytes (values_of (ParamValue m)) of)
service_read (ParamSet m) payload bytes fits of =
    ap (λ (v : List (List ℕ)). Some (param_set_in v)) (values_are param_set_definition payload bytes (values_of (ParamSet m)) of)
service_read (GlobalPositionInt m) payload bytes fits of = refl
service_read (MissionCurrent m) payload bytes fits of = refl
service_read (MissionRequestList m) payload bytes fits of = refl
service_read (MissionCount m) payload bytes fits of = refl
service_read (MissionClearAll m) payload bytes fits of = refl
service_read (MissionItemReached m) payload bytes fits of = refl
service_read (MissionAck m) payload bytes fits of = refl
service_read (MissionRequestInt m) payload bytes fits of = refl
service_read (MissionItemInt m) payload bytes fits of = refl
service_read (CommandLong m) payload bytes fits of =
    ap (λ (v : List (List ℕ)). Some (command_in v)) (values_are command_long_definition payload bytes (values_of (CommandLong m)) of)
service_read (CommandAck m) payload bytes fits of =
    (λ i. Some (CommandAck (record { command = m.command; result = m.result; progress = m.progress; result_param2 = sym fits i; target_system = m.target_system; target_component = m.target_component })))
    ∙ ap (λ (v : List (List ℕ)). Some (command_ack_in v)) (values_are command_ack_definition payload bytes (values_of (CommandAck m)) of)
service_read (FileTransferProtocol m) payload bytes fits of =
    ap (λ (v : List (List ℕ)). Some (file_in v)) (values_are file_transfer_protocol_definition payload bytes (values_of (FileTransferProtocol m)) of)
service_read (Statustext m) payload bytes fits of = refl

-- the message of another service of a frame, by the message that was read
pub service_carried : (id : ℕ) (payload : List ℕ) (m : Message) → IsBytes payload → ServiceFits m → profile_definition id ≡ Some (definition_of m) → Represents (definition_of m) payload (values_of m) → service_in id payload ≡ service_of m
service_carried id payload m bytes fits is of =
    ap (λ (n : ℕ). service_in n payload) (sym (found id profile_definitions (definition_of m) is)) ∙ sym (service_read m payload bytes fits of)

-- a frame of another id carries none
pub no_service_carried : (id : ℕ) (payload : List ℕ) → profile_definition id ≡ None → service_in id payload ≡ None
no_service_carried id payload none =
    let d20 = differs id 20 none (known param_request_read_definition) in
    let d21 = differs id 21 none (known param_request_list_definition) in
    let d22 = differs id 22 none (known param_value_definition) in
    let d23 = differs id 23 none (known param_set_definition) in
    let d76 = differs id 76 none (known command_long_definition) in
    let d77 = differs id 77 none (known command_ack_definition) in
    let d110 = differs id 110 none (known file_transfer_protocol_definition) in
    rw (d20, d21, d22, d23, d76, d77, d110) refl
