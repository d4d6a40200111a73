-- What contracts see of a client.
use Rattle.std.specs.Prelude.{◌<◌, Option, Some, None}
use Rattle.param_proto.specs.declared.client.ParamClient.TheInside.{Inside}
use Rattle.param_proto.specs.declared.operations.OpenOperation.{OpenOperation}
use Rattle.param_proto.specs.Client.{ClientState, idle_limit}
use Rattle.param_proto.specs.Views.{operations_view}

abbrev pub client_view : Inside → ClientState
client_view c = record { me = c.me; values = c.values; operation = operations_view c.operation }

-- an operation that reached the limit isn't open any more
abbrev pub IsWaiting : Option OpenOperation → Type 0
IsWaiting None = Unit {0}
IsWaiting (Some o) = o.idle < idle_limit
