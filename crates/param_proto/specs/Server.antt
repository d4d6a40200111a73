-- The drone's side of the parameter protocol: a list of parameters with distinct ids, read and set by messages
-- (MAVLink guide, Parameter Protocol).
use Rattle.std.specs.Prelude.{ℕ, ℤ, pos, negsuc, zero, suc, ◌+◌, ◌==◌, if◌then◌else◌, Bool, not, List, [], ◌∷◌, ◌++◌}
use Rattle.std.specs.Prelude.{length, map, position, slice_get, slice_set, Option, Some, None}
use Rattle.std.specs.List.{list_any}
use Rattle.mav_names.specs.declared.names.Name.{Name}
use Rattle.mav_names.specs.Addresses.{is_for_node}
use Rattle.mav_messages.specs.declared.params.ParamRequestRead.{ParamRequestRead}
use Rattle.mav_messages.specs.declared.params.ParamSet.{ParamSet}
use Rattle.mav_messages.specs.declared.messages.Message.{Message}
use Rattle.mav_messages.specs.declared.messages.Message.TheVariants.{ParamRequestRead as Requests}
use Rattle.mav_messages.specs.declared.messages.Message.TheVariants.{ParamRequestList as Lists, ParamSet as Sets}
use Rattle.mav_messages.specs.declared.messages.Message.TheVariants.{ParamValue as Tells}
use Rattle.param_proto.specs.declared.params.Param.{Param}
use Rattle.param_proto.specs.Params.{same_id, is_type, narrowed, normal}

-- the parameters, and the answers to the latest message that weren't taken yet
pub record ServerState : Type 0 where
  pub params : List Param
  pub waiting : List Message

-- the most parameters of a server
abbrev pub most_params : ℕ
most_params = 1000

abbrev pub has_id : List ℕ → Param → Bool
has_id id p = same_id p.id id

-- the first with a type that is none, and the first with the id of an earlier one
abbrev pub untyped : Param → Bool
untyped p = not (is_type p.ty)

abbrev pub twice_from : List Param → ℕ → List Param → Option ℕ
twice_from earlier at [] = None
twice_from earlier at (p ∷ ps) = if list_any (has_id p.id) earlier then Some at
    else twice_from (earlier ++ p ∷ []) (at + 1) ps

abbrev pub twice_named : List Param → Option ℕ
twice_named params = twice_from [] 0 params

abbrev pub new_server : List Param → ServerState
new_server params = record { params = map normal params; waiting = [] }

-- PARAM_VALUE of a parameter: its index, and how many there are
abbrev pub value_message : ℕ → ℕ → Param → Message
value_message count index p =
    Tells (record {
      param_id = p.id;
      param_value = p.word;
      param_type = p.ty;
      param_count = count;
      param_index = index;
    })

abbrev pub values_from : ℕ → ℕ → List Param → List Message
values_from count index [] = []
values_from count index (p ∷ ps) = value_message count index p ∷ values_from count (index + 1) ps

-- the value at an index, and at the one that has an id; none if there isn't one
abbrev pub value_of : ℕ → ℕ → Option Param → List Message
value_of count index None = []
value_of count index (Some p) = value_message count index p ∷ []

abbrev pub value_at : List Param → Option ℕ → List Message
value_at params None = []
value_at params (Some index) = value_of (length params) index (slice_get params index)

abbrev pub place_of : List Param → List ℕ → Option ℕ
place_of params id = position (has_id id) params

-- PARAM_REQUEST_READ: by its index from 0 on, and by its id if that is -1
abbrev pub asked_for : List Param → ParamRequestRead → ℤ → List Message
asked_for params m (pos index) = value_at params (Some index)
asked_for params m (negsuc zero) = value_at params (place_of params m.param_id)
asked_for params m (negsuc (suc n)) = []

-- PARAM_SET: a known id with its own type takes the value
abbrev pub with_word : Param → ParamSet → Param
with_word p m = if p.ty == m.param_type then record p { word = narrowed p.ty m.param_value } else p

abbrev pub set_at : List Param → ParamSet → ℕ → Option Param → List Param
set_at params m index None = params
set_at params m index (Some p) = slice_set params index (with_word p m)

abbrev pub params_set : List Param → ParamSet → Option ℕ → List Param
params_set params m None = params
params_set params m (Some index) = set_at params m index (slice_get params index)

-- it is answered with the value that now holds
abbrev pub serves : List Param → List Message → ServerState
serves params waiting = record { params = params; waiting = waiting }

abbrev pub value_set : ServerState → ParamSet → Option ℕ → ServerState
value_set s m place = serves (params_set s.params m place) (value_at (params_set s.params m place) place)

abbrev pub if_for : Bool → ServerState → ServerState → ServerState
if_for for_me s t = if for_me then t else serves s.params []

-- a message; answers to an earlier one that still wait are dropped
abbrev pub server_step : ServerState → Name → Message → ServerState
server_step s me (Requests m) =
    if_for (is_for_node me (record { sys = m.target_system; comp = m.target_component })) s
    (serves s.params (asked_for s.params m m.param_index))
server_step s me (Lists m) =
    if_for (is_for_node me (record { sys = m.target_system; comp = m.target_component })) s
    (serves s.params (values_from (length s.params) 0 s.params))
server_step s me (Sets m) =
    if_for (is_for_node me (record { sys = m.target_system; comp = m.target_component })) s
    (value_set s m (place_of s.params m.param_id))
server_step s me _ = serves s.params []

-- the next answer that waits is taken
abbrev pub next_answer : List Message → Option Message
next_answer [] = None
next_answer (m ∷ ms) = Some m

abbrev pub without_next : List Message → List Message
without_next [] = []
without_next (m ∷ ms) = ms

abbrev pub taken_from : ServerState → ServerState
taken_from s = record s { waiting = without_next s.waiting }

-- the value that an id has
abbrev pub word_found : Option Param → Option ℕ
word_found None = None
word_found (Some p) = Some p.word

abbrev pub word_in : List Param → Option ℕ → Option ℕ
word_in params None = None
word_in params (Some index) = word_found (slice_get params index)
