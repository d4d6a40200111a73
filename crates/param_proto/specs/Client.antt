-- The station's side of the parameter protocol: one read, set or list at a time, asked again until it is answered
-- (MAVLink guide, Parameter Protocol).
use Rattle.std.specs.Prelude.{ℕ, ℤ, pos, negsuc, suc, zero, ◌+◌, ◌==◌, if◌then◌else◌, nat_lt, nat_le, Bool, true}
use Rattle.std.specs.Prelude.{false, is_some, List, [], ◌∷◌, length, take, replicate, Option, Some, None}
use Rattle.mav_names.specs.declared.names.Name.{Name}
use Rattle.mav_names.specs.declared.names.Stream.{Stream}
use Rattle.mav_names.specs.Addresses.{same_stream}
use Rattle.mav_messages.specs.declared.params.ParamValue.{ParamValue}
use Rattle.mav_messages.specs.declared.messages.Message.{Message}
use Rattle.mav_messages.specs.declared.messages.Message.TheVariants.{ParamRequestRead as Requests}
use Rattle.mav_messages.specs.declared.messages.Message.TheVariants.{ParamRequestList as Lists, ParamSet as Sets}
use Rattle.mav_messages.specs.declared.messages.Message.TheVariants.{ParamValue as Tells}
use Rattle.param_proto.specs.declared.params.Param.{Param}
use Rattle.param_proto.specs.Params.{same_id}

-- what is asked for: one parameter by its id, that one takes a value, or all of them
pub data Task : Type 0 where
  Reads : (id : List ℕ) → Task
  Sets_to : (param : Param) → Task
  All_listed : Task

-- of a drone, with the ticks in a row that brought nothing
pub record Operation : Type 0 where
  pub drone : Stream
  pub task : Task
  pub idle : ℕ

-- the values of the latest list by their index: None if the value at an index wasn't taken
pub record ClientState : Type 0 where
  pub me : Name
  pub values : List (Option Param)
  pub operation : Option Operation

abbrev pub new_client : Name → ClientState
new_client me = record { me = me; values = []; operation = None }

-- the ticks in a row after which an operation is given up
abbrev pub idle_limit : ℕ
idle_limit = 5

-- the greatest index that a request can name
abbrev pub greatest_index : ℕ
greatest_index = 32767

-- how an operation ends: with one value, with all of a list, or without an answer
pub data ParamsEnd : Type 0 where
  One_value : (param : Param) → ParamsEnd
  All_values : (values : List Param) → ParamsEnd
  No_answer : ParamsEnd

pub record ClientStep : Type 0 where
  pub client : ClientState
  pub answer : Option Message
  pub end : Option ParamsEnd

-- the values from index 0 up to the first that wasn't taken
abbrev pub known_values : List (Option Param) → List Param
known_values [] = []
known_values (None ∷ vs) = []
known_values (Some p ∷ vs) = p ∷ known_values vs

-- the values with that of an index
abbrev pub with_value : List (Option Param) → ℕ → Param → List (Option Param)
with_value [] zero p = Some p ∷ []
with_value [] (suc index) p = None ∷ with_value [] index p
with_value (v ∷ vs) zero p = Some p ∷ vs
with_value (v ∷ vs) (suc index) p = v ∷ with_value vs index p

abbrev pub was_taken : List (Option Param) → ℕ → Bool
was_taken [] index = false
was_taken (v ∷ vs) zero = is_some v
was_taken (v ∷ vs) (suc index) = was_taken vs index

-- ---- requests

abbrev pub no_id : List ℕ
no_id = replicate 16 0

-- by its id, and by its index
abbrev pub read_message : Stream → List ℕ → ℤ → Message
read_message drone id index =
    Requests (record { target_system = drone.sys; target_component = drone.comp; param_id = id; param_index = index })

abbrev pub set_message : Stream → Param → Message
set_message drone p =
    Sets (record {
      target_system = drone.sys;
      target_component = drone.comp;
      param_id = p.id;
      param_value = p.word;
      param_type = p.ty;
    })

abbrev pub list_message : Stream → Message
list_message drone = Lists (record { target_system = drone.sys; target_component = drone.comp })

-- all of a list are asked for as long as no value was taken, or if a request can't name the first that is missing
abbrev pub asks_all : List (Option Param) → Bool
asks_all [] = true
asks_all (v ∷ vs) = nat_lt greatest_index (length (known_values (v ∷ vs)))

abbrev pub list_request : Stream → List (Option Param) → Message
list_request drone values =
    if asks_all values then list_message drone else read_message drone no_id (pos (length (known_values values)))

-- what an operation asks
abbrev pub request_of : Stream → Task → List (Option Param) → Message
request_of drone (Reads id) values = read_message drone id (negsuc 0)
request_of drone (Sets_to p) values = set_message drone p
request_of drone All_listed values = list_request drone values

-- ---- an operation begins; none does while one is open

abbrev pub begun : Stream → Task → Operation
begun drone task = record { drone = drone; task = task; idle = 0 }

abbrev pub reads : ClientState → Stream → List ℕ → ClientStep
reads c drone id = record {
  client = record c { operation = Some (begun drone (Reads id)) };
  answer = Some (read_message drone id (negsuc 0));
  end = None;
}

abbrev pub sets : ClientState → Stream → Param → ClientStep
sets c drone p = record {
  client = record c { operation = Some (begun drone (Sets_to p)) };
  answer = Some (set_message drone p);
  end = None;
}

abbrev pub lists : ClientState → Stream → ClientStep
lists c drone = record {
  client = record c { values = []; operation = Some (begun drone All_listed) };
  answer = Some (list_message drone);
  end = None;
}

-- ---- PARAM_VALUE of the operation's drone

abbrev pub rests : ClientState → ClientStep
rests c = record { client = c; answer = None; end = None }

abbrev pub param_in : ParamValue → Param
param_in m = record { id = m.param_id; ty = m.param_type; word = m.param_value }

-- a read or set ends at the value of its id
abbrev pub one_comes : ClientState → List ℕ → ParamValue → ClientStep
one_comes c id m =
    if same_id m.param_id id
    then record { client = record c { operation = None }; answer = None; end = Some (One_value (param_in m)) }
    else rests c

-- a list with these values: it ends once all below the count of the latest value were taken
abbrev pub listed : ClientState → Operation → ℕ → List (Option Param) → ClientStep
listed c o count values =
    if nat_le count (length (known_values values))
    then record {
      client = record c { values = take count values; operation = None };
      answer = None;
      end = Some (All_values (take count (known_values values)));
    }
    else rests (record c { values = values; operation = Some o })

-- the ticks count anew at a value for an index of which none was taken before
abbrev pub heard_at : Operation → Bool → Operation
heard_at o true = o
heard_at o false = record o { idle = 0 }

-- a count of 0 ends it at once; an index that isn't below its own count is ignored
abbrev pub value_comes : ClientState → Operation → ParamValue → ClientStep
value_comes c o m =
    if m.param_count == 0 then listed c o 0 c.values
    else if nat_lt m.param_index m.param_count
    then listed c (heard_at o (was_taken c.values m.param_index)) m.param_count
    (with_value c.values m.param_index (param_in m))
    else rests c

abbrev pub answered : ClientState → Operation → Task → ParamValue → ClientStep
answered c o (Reads id) m = one_comes c id m
answered c o (Sets_to p) m = one_comes c p.id m
answered c o All_listed m = value_comes c o m

abbrev pub told : ClientState → Option Operation → Stream → ParamValue → ClientStep
told c None from m = rests c
told c (Some o) from m = if same_stream o.drone from then answered c o o.task m else rests c

abbrev pub client_step : ClientState → Stream → Message → ClientStep
client_step c from (Tells m) = told c c.operation from m
client_step c from _ = rests c

-- ---- a tick: it asks again, and ends at the fifth in a row

abbrev pub operation_ticks : ClientState → Option Operation → ClientStep
operation_ticks c None = rests c
operation_ticks c (Some o) =
    if nat_lt (o.idle + 1) idle_limit
    then record {
      client = record c { operation = Some (record o { idle = o.idle + 1 }) };
      answer = Some (request_of o.drone o.task c.values);
      end = None;
    }
    else record { client = record c { operation = None }; answer = None; end = Some No_answer }

abbrev pub client_tick : ClientState → ClientStep
client_tick c = operation_ticks c c.operation
