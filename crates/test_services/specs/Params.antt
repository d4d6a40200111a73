-- Parameters that are set and listed.
use Rattle.std.specs.Prelude.{ℕ, zero, suc, ℤ, pos, negsuc, ◌≡◌, ◌%◌, ◌==◌, if◌then◌else◌, List, [], ◌∷◌, length}
use Rattle.std.specs.Prelude.{codes, Option, Some, None}
use Rattle.mav_names.specs.declared.names.Stream.{Stream}
use Rattle.mav_names.specs.declared.names.Name.{Name}
use Rattle.mav_messages.specs.declared.messages.Message.{Message}
use Rattle.mav_messages.specs.declared.messages.Message.TheVariants.{ParamSet, ParamValue, ParamRequestRead}
use Rattle.param_proto.specs.Server.{ServerState, new_server, server_step}
use Rattle.param_proto.specs.Client.{ClientState, new_client, lists, client_step, client_tick, known_values}

abbrev pub drone : Name
drone = record { sys = 1; comp = 1 }

-- an id of sixteen characters, without a zero byte
abbrev pub long_id : List ℕ
long_id = codes "SIXTEEN_LETTERS_"

-- a server of one int16, which is 7
abbrev pub server : ServerState
server = new_server (record { id = long_id; ty = 4; word = 7 } ∷ [])

-- it is set, as a value of a type, by the bytes of its field
abbrev pub set_to : ℕ → ℕ → Message
set_to ty word = ParamSet (record {
  target_system = 1;
  target_component = 1;
  param_id = long_id;
  param_value = word;
  param_type = ty;
})

abbrev pub told : List Message → List ℕ
told [] = []
told (ParamValue m ∷ ms) = m.param_value ∷ told ms
told (_ ∷ ms) = told ms

abbrev pub value_after : Message → List ℕ
value_after m = told (server_step server drone m).waiting

-- ---- a list of many values, of which every third is lost

abbrev pub sender : Stream
sender = record { sys = 1; comp = 1; link = 0 }

abbrev pub many : ℕ
many = 1000

abbrev pub value : ℕ → Message
value index = ParamValue (record {
  param_id = long_id;
  param_value = index;
  param_type = 5;
  param_count = many;
  param_index = index;
})

-- those below an index, without those of index 2, 5, 8 ..
abbrev pub two_of_three : ℕ → ClientState → ClientState
two_of_three zero c = c
two_of_three (suc n) c = if n % 3 == 2 then two_of_three n c
    else (client_step (two_of_three n c) sender (value n)).client

-- at a tick the client asks for the first that is missing, and it is sent
abbrev pub value_asked : ℤ → Message
value_asked (pos index) = value index
value_asked (negsuc n) = value 0

abbrev pub answered : ClientState → Option Message → ClientState
answered c (Some (ParamRequestRead m)) = (client_step c sender (value_asked m.param_index)).client
answered c _ = c

abbrev pub after_ticks : ℕ → ClientState → ClientState
after_ticks zero c = c
after_ticks (suc n) c = answered (client_tick (after_ticks n c)).client (client_tick (after_ticks n c)).answer

abbrev pub asking : ClientState
asking = (lists (new_client (record { sys = 255; comp = 190 })) sender).client

abbrev pub known_after : ClientState → ℕ
known_after c = length (known_values c.values)

pub record WorkedParams : Type 0 where
  -- -2 as an int16; bytes past the type don't count; and a value of another type leaves the old one
  pub negative : value_after (set_to 4 0xFFFE) ≡ 0xFFFE ∷ []
  pub wide : value_after (set_to 4 0x1234FFFE) ≡ 0xFFFE ∷ []
  pub other_type : value_after (set_to 6 9) ≡ 7 ∷ []
  -- with every third value lost two are known up to the first gap, and a tick for each gap brings all
  pub gaps : known_after (two_of_three many asking) ≡ 2
  pub nearly : known_after (after_ticks 332 (two_of_three many asking)) ≡ 998
  pub whole : known_after (after_ticks 333 (two_of_three many asking)) ≡ 1000
  pub ended : (after_ticks 333 (two_of_three many asking)).operation ≡ None
