-- What contracts see of a server.
use Rattle.std.specs.Prelude.{◌≤◌, length}
use Rattle.param_proto.specs.declared.server.ParamServer.TheInside.{Inside}
use Rattle.param_proto.specs.Server.{ServerState, most_params}
use Rattle.param_proto.specs.Views.{values_between}
use Rattle.param_proto.specs.Places.{IsIndex}

abbrev pub server_view : Inside → ServerState
server_view s = record { params = s.params.items; waiting = values_between s.params.items s.next s.end }

-- every id is found, and what waits are values of it
pub record IsServer (s : Inside) : Type 0 where
  pub few : length s.params.items ≤ most_params
  pub places : IsIndex s.places.entries s.params.items
  pub ordered : s.next ≤ s.end
  pub within : s.end ≤ length s.params.items
