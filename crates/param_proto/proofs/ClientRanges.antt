-- A client stays in range, and what it sends fits its fields.
use Rattle.std.proofs.Common.{◌≡◌, ℕ, ℤ, pos, negsuc, ◌+◌, ◌==◌, ◌<◌, ◌≤◌, ◌^◌, Bool, true, false, nat_lt, nat_le, if◌then◌else◌, List, [], ◌∷◌, length, take, Option, Some, None, IfSome, refl, arith}
use Rattle.std.specs.Prelude.{FitsSigned}
use Rattle.std.specs.Int.{w16, cast_unsigned}
use Rattle.std.proofs.lemmas.Int.{ints, to_z-of_z}
use Rattle.std.proofs.lemmas.Bool.Decides.{nat_tests}
use Rattle.std.proofs.lemmas.List.Elements.{All-replicate}
use Rattle.field_layout.specs.Definition.{all_fields}
use Rattle.mav_names.specs.declared.names.Stream.{Stream}
use Rattle.mav_names.specs.Addresses.{same_stream}
use Rattle.mav_messages.specs.declared.params.ParamValue.{ParamValue}
use Rattle.mav_messages.specs.declared.messages.Message.{Message}
use Rattle.mav_messages.specs.declared.messages.Message.TheVariants.{ParamValue as Tells}
use Rattle.mav_messages.specs.Messages.{definition_of, values_of}
use Rattle.mav_messages.proofs.Decoded.{fits_layout}
use Rattle.param_proto.specs.declared.params.Param.{Param}
use Rattle.param_proto.specs.Params.{same_id}
use Rattle.param_proto.specs.Client.{Task, Reads, Sets_to, All_listed, Operation, ClientState, known_values, with_value, was_taken, no_id, read_message, set_message, list_message, asks_all, list_request, request_of, reads, sets, lists, rests, param_in, one_comes, listed, heard_at, value_comes, answered, told, client_step, idle_limit, No_answer, One_value, All_values, operation_ticks, client_tick}
use Rattle.param_proto.specs.Ranges.{IdInRange, ParamInRange, MessageInRange, StreamInRange, TaskInRange, OperationInRange, ClientInRange, StepInRange}
use Rattle.param_proto.proofs.ParamRanges.{each_byte}

-- ---- the messages

index_word : (z : ℤ) → FitsSigned w16 z → cast_unsigned w16 z < 2 ^ 16
index_word z h = omega (arith, ints)

read_in_range : (drone : Stream) (id : List ℕ) (z : ℤ) → StreamInRange drone → IdInRange id → FitsSigned w16 z → MessageInRange (read_message drone id z)
read_in_range drone id z d h fits = record {
  fits =
      fits_layout (all_fields (definition_of (read_message drone id z))) (values_of (read_message drone id z))
      ((refl, d.sys), ((refl, d.comp), ((h.size, each_byte id h.bytes), ((refl, index_word z fits), tt))));
  index = to_z-of_z w16 z fits;
  other = refl;
}

set_in_range : (drone : Stream) (p : Param) → StreamInRange drone → ParamInRange p → MessageInRange (set_message drone p)
set_in_range drone p d h = record {
  fits =
      fits_layout (all_fields (definition_of (set_message drone p))) (values_of (set_message drone p))
      ((refl, d.sys), ((refl, d.comp), ((h.id.size, each_byte p.id h.id.bytes), ((refl, h.word), ((refl, h.ty), tt)))));
  index = tt;
  other = refl;
}

list_in_range : (drone : Stream) → StreamInRange drone → MessageInRange (list_message drone)
list_in_range drone d = record {
  fits =
      fits_layout (all_fields (definition_of (list_message drone))) (values_of (list_message drone))
      ((refl, d.sys), ((refl, d.comp), tt));
  index = tt;
  other = refl;
}

no_id_in_range : IdInRange no_id
no_id_in_range = record { size = refl; bytes = All-replicate (λ byte. byte < 256) 16 0 (omega arith) }

by_id : FitsSigned w16 (negsuc 0)
by_id = omega (arith, ints)

by_index : (n : ℕ) → n ≤ 32767 → FitsSigned w16 (pos n)
by_index n low = omega (arith, ints, low)

-- the first index that is missing can be named
not_all : (vs : List (Option Param)) → asks_all vs ≡ false → length (known_values vs) ≤ 32767
not_all [] e = absurd (let wrong : true ≡ false = e in cc)
not_all (v ∷ vs) e = low (length (known_values (v ∷ vs))) e
  where
    low : (n : ℕ) → nat_lt 32767 n ≡ false → n ≤ 32767
    low n e = grind (arith, nat_tests)

listing_in_range : (drone : Stream) (vs : List (Option Param)) → StreamInRange drone → MessageInRange (list_request drone vs)
listing_in_range drone vs d =
    elim (asks_all vs) as (λ t. asks_all vs ≡ t → MessageInRange (if t then list_message drone else read_message drone no_id (pos (length (known_values vs))))) [
      | true ↦ λ e. list_in_range drone d
      | false ↦ λ e. read_in_range drone no_id (pos (length (known_values vs))) d no_id_in_range (by_index (length (known_values vs)) (not_all vs e))
    ] refl

request_in_range : (drone : Stream) (task : Task) (vs : List (Option Param)) → StreamInRange drone → TaskInRange task → MessageInRange (request_of drone task vs)
request_in_range drone (Reads id) vs d h = read_in_range drone id (negsuc 0) d h by_id
request_in_range drone (Sets_to p) vs d h = set_in_range drone p d h
request_in_range drone All_listed vs d h = listing_in_range drone vs d

-- ---- a client begins

pub reads_in_range : (c : ClientState) (drone : Stream) → StreamInRange drone → (id : List ℕ) → IdInRange id → StepInRange (reads c drone id)
reads_in_range c drone d id h = record { client = record { drone = d; task = h }; answer = read_in_range drone id (negsuc 0) d h by_id }

pub sets_in_range : (c : ClientState) (drone : Stream) → StreamInRange drone → (p : Param) → ParamInRange p → StepInRange (sets c drone p)
sets_in_range c drone d p h = record { client = record { drone = d; task = h }; answer = set_in_range drone p d h }

pub lists_in_range : (c : ClientState) (drone : Stream) → StreamInRange drone → StepInRange (lists c drone)
lists_in_range c drone d = record { client = record { drone = d; task = tt }; answer = list_in_range drone d }

-- ---- and goes on

stays : (c : ClientState) → ClientInRange c → StepInRange (rests c)
stays c h = record { client = h; answer = tt }

-- the same operation, with other ticks
listed_in_range : (c : ClientState) (o : Operation) (count : ℕ) (vs : List (Option Param)) → OperationInRange o → StepInRange (listed c o count vs)
listed_in_range c o count vs h =
    elim (nat_le count (length (known_values vs))) as (λ t. StepInRange (if t then record {
      client = record c { values = take count vs; operation = None };
      answer = None;
      end = Some (All_values (take count (known_values vs)));
    } else rests (record c { values = vs; operation = Some o }))) [
      | true ↦ record { client = tt; answer = tt }
      | false ↦ record { client = h; answer = tt }
    ]

heard_in_range : (o : Operation) (taken : Bool) → OperationInRange o → OperationInRange (heard_at o taken)
heard_in_range o true h = h
heard_in_range o false h = record { drone = h.drone; task = h.task }

one_in_range : (c : ClientState) (id : List ℕ) (m : ParamValue) → ClientInRange c → StepInRange (one_comes c id m)
one_in_range c id m h =
    elim (same_id m.param_id id) as (λ t. StepInRange (if t then record { client = record c { operation = None }; answer = None; end = Some (One_value (param_in m)) } else rests c)) [
      | true ↦ record { client = tt; answer = tt }
      | false ↦ stays c h
    ]

value_in_list : (c : ClientState) (o : Operation) (m : ParamValue) → ClientInRange c → OperationInRange o → StepInRange (value_comes c o m)
value_in_list c o m h i =
    let vs = with_value c.values m.param_index (param_in m) in
    let next = heard_at o (was_taken c.values m.param_index) in
    elim (m.param_count == 0) as (λ t. StepInRange (if t then listed c o 0 c.values else if nat_lt m.param_index m.param_count then listed c next m.param_count vs else rests c)) [
      | true ↦ listed_in_range c o 0 c.values i
      | false ↦
          elim (nat_lt m.param_index m.param_count) as (λ t. StepInRange (if t then listed c next m.param_count vs else rests c)) [
            | true ↦ listed_in_range c next m.param_count vs (heard_in_range o (was_taken c.values m.param_index) i)
            | false ↦ stays c h
          ]
    ]

answered_in_range : (c : ClientState) (o : Operation) (task : Task) (m : ParamValue) → ClientInRange c → OperationInRange o → StepInRange (answered c o task m)
answered_in_range c o (Reads id) m h i = one_in_range c id m h
answered_in_range c o (Sets_to p) m h i = one_in_range c p.id m h
answered_in_range c o All_listed m h i = value_in_list c o m h i

told_in_range : (c : ClientState) (o : Option Operation) (from : Stream) (m : ParamValue) → ClientInRange c → IfSome o OperationInRange → StepInRange (told c o from m)
told_in_range c None from m h i = stays c h
told_in_range c (Some o) from m h i =
    elim (same_stream o.drone from) as (λ t. StepInRange (if t then answered c o o.task m else rests c)) [
      | true ↦ answered_in_range c o o.task m h i
      | false ↦ stays c h
    ]

pub step_in_range : (c : ClientState) → ClientInRange c → (from : Stream) (m : Message) → StepInRange (client_step c from m)
step_in_range c h from (Tells m) = told_in_range c c.operation from m h h
step_in_range c h from _ = stays c h

ticked_in_range : (c : ClientState) (o : Option Operation) → ClientInRange c → IfSome o OperationInRange → StepInRange (operation_ticks c o)
ticked_in_range c None h i = stays c h
ticked_in_range c (Some o) h i =
    elim (nat_lt (o.idle + 1) idle_limit) as (λ t. StepInRange (if t then record {
      client = record c { operation = Some (record o { idle = o.idle + 1 }) };
      answer = Some (request_of o.drone o.task c.values);
      end = None;
    } else record { client = record c { operation = None }; answer = None; end = Some No_answer })) [
      | true ↦ record { client = record { drone = i.drone; task = i.task }; answer = request_in_range o.drone o.task c.values i.drone i.task }
      | false ↦ record { client = tt; answer = tt }
    ]

pub tick_in_range : (c : ClientState) → ClientInRange c → StepInRange (client_tick c)
tick_in_range c h = ticked_in_range c c.operation h h
