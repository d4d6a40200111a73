-- What the services of nodes keep, so that what they send fits its payload, and is not too much.
use Rattle.std.specs.Prelude.{ℕ, ◌≡◌, ◌<◌, ◌^◌, Bool, true, [], length, All, None}
use Rattle.mav_names.specs.declared.names.Name.{Name}
use Rattle.mav_names.specs.declared.names.Stream.{Stream}
use Rattle.command_proto.specs.declared.commands.LastCommand.{LastCommand}
use Rattle.command_proto.specs.Laws.{ExecutorInRange, CommanderInRange}
use Rattle.param_proto.specs.Ranges.{ServerInRange, ClientInRange}
use Rattle.drone_sim.specs.Laws.{SimInRange}
use Rattle.mav_ftp.specs.Ranges.{FilesInRange}
use Rattle.mav_nodes.specs.Services.{DroneServices, StationServices}

-- how many parameters a drone has
abbrev pub param_count : ℕ
param_count = 40

-- a drone's: they are its node's, the last commands are of streams that it has heard, all answers were taken, and what
-- its simulator reports and its files are in range
pub record SoundDroneServices (known : Stream → Bool) (me : Name) (v : DroneServices) : Type 0 where
  pub me_is : v.executor.me ≡ me
  pub executor : ExecutorInRange v.executor
  pub heard : All (λ (l : LastCommand). known l.stream ≡ true) v.executor.last
  pub server : ServerInRange v.server
  pub count : length v.server.params ≡ param_count
  pub waiting : v.server.waiting ≡ []
  pub sim : SimInRange v.sim
  pub time : v.time < 2 ^ 32
  pub files : FilesInRange v.files

-- a station's; no line of a scenario asks for files
pub record SoundStationServices (me : Name) (v : StationServices) : Type 0 where
  pub commander_me : v.commander.me ≡ me
  pub client_me : v.client.me ≡ me
  pub commander : CommanderInRange v.commander
  pub client : ClientInRange v.client
  pub files_me : v.files.me ≡ me
  pub no_transfer : v.files.transfer.operation ≡ None
