-- The ranges of what a server and a client keep and send (MAVLink common messages).
use Rattle.std.specs.Prelude.{◌≡◌, ℕ, ◌^◌, ◌<◌, ◌≤◌, List, length, None, IfSome}
use Rattle.std.specs.List.{All}
use Rattle.std.specs.Int.{w16, cast_signed, cast_unsigned}
use Rattle.mav_names.specs.declared.names.Stream.{Stream}
use Rattle.field_layout.specs.Payload.{FitsLayout}
use Rattle.mav_messages.specs.declared.messages.Message.{Message}
use Rattle.mav_messages.specs.declared.messages.Message.TheVariants.{ParamRequestRead as Requests}
use Rattle.mav_messages.specs.Messages.{definition_of, values_of}
use Rattle.mav_messages.specs.Plans.{plan_of}
use Rattle.param_proto.specs.declared.params.Param.{Param}
use Rattle.param_proto.specs.Server.{ServerState, most_params}
use Rattle.param_proto.specs.Client.{Task, Reads, Sets_to, All_listed, Operation, ClientState, ClientStep}

-- the sixteen bytes of an id
pub record IdInRange (id : List ℕ) : Type 0 where
  pub size : length id ≡ 16
  pub bytes : All (λ byte. byte < 256) id

pub record ParamInRange (p : Param) : Type 0 where
  pub id : IdInRange p.id
  pub ty : p.ty < 256
  pub word : p.word < 2 ^ 32

-- the index of a read comes back from the word of its bits
abbrev pub IndexFits : Message → Type 0
IndexFits (Requests m) = cast_signed w16 (cast_unsigned w16 m.param_index) ≡ m.param_index
IndexFits _ = Unit {0}

-- a message that fits its fields, and carries none of the mission protocol
pub record MessageInRange (m : Message) : Type 0 where
  pub fits : FitsLayout (definition_of m) (values_of m)
  pub index : IndexFits m
  pub other : plan_of m ≡ None

pub record ServerInRange (s : ServerState) : Type 0 where
  pub few : length s.params ≤ most_params
  pub params : All ParamInRange s.params
  pub waiting : All MessageInRange s.waiting

pub record StreamInRange (stream : Stream) : Type 0 where
  pub sys : stream.sys < 256
  pub comp : stream.comp < 256

abbrev pub TaskInRange : Task → Type 0
TaskInRange (Reads id) = IdInRange id
TaskInRange (Sets_to p) = ParamInRange p
TaskInRange All_listed = Unit {0}

pub record OperationInRange (o : Operation) : Type 0 where
  pub drone : StreamInRange o.drone
  pub task : TaskInRange o.task

-- a client sends nothing of what it takes
abbrev pub ClientInRange : ClientState → Type 0
ClientInRange c = IfSome c.operation OperationInRange

pub record StepInRange (r : ClientStep) : Type 0 where
  pub client : ClientInRange r.client
  pub answer : IfSome r.answer MessageInRange
