-- A list from its start on, by the calls that bring something or nothing.
use Rattle.std.specs.Prelude.{ℕ, ◌==◌, suc, zero, nat_lt, ◌&&◌, if◌then◌else◌, Bool, List, [], ◌∷◌, Option, Some, None}
use Rattle.mav_names.specs.declared.names.Stream.{Stream}
use Rattle.mav_names.specs.Addresses.{same_stream}
use Rattle.mav_messages.specs.declared.params.ParamValue.{ParamValue}
use Rattle.mav_messages.specs.declared.messages.Message.{Message}
use Rattle.mav_messages.specs.declared.messages.Message.TheVariants.{ParamValue as Tells}
use Rattle.param_proto.specs.declared.params.Param.{Param}
use Rattle.param_proto.specs.Client.{ClientState, client_step, client_tick, param_in}

-- a message of a stream, or a tick
pub data ListEvent : Type 0 where
  Hears : (from : Stream) → (m : Message) → ListEvent
  Ticks : ListEvent

abbrev pub after : ClientState → ListEvent → ClientState
after c (Hears from m) = (client_step c from m).client
after c Ticks = (client_tick c).client

abbrev pub after_all : ClientState → List ListEvent → ClientState
after_all c [] = c
after_all c (e ∷ es) = after_all (after c e) es

-- a value of the drone for an index, which is below the value's own count
abbrev pub is_for_index : Stream → ℕ → Stream → ParamValue → Bool
is_for_index drone index from m = same_stream drone from
    && (nat_lt m.param_index m.param_count && (m.param_index == index))

abbrev pub newer : Stream → ℕ → Option Param → ListEvent → Option Param
newer drone index before (Hears from (Tells m)) = if is_for_index drone index from m then Some (param_in m) else before
newer drone index before _ = before

-- the last one of these, or what was before them
abbrev pub latest : Stream → ℕ → Option Param → List ListEvent → Option Param
latest drone index before [] = before
latest drone index before (e ∷ es) = latest drone index (newer drone index before e) es

-- the value at an index, if one was taken
abbrev pub value_at : List (Option Param) → ℕ → Option Param
value_at [] index = None
value_at (v ∷ vs) zero = v
value_at (v ∷ vs) (suc index) = value_at vs index
