-- What each command does, and how it is told.
use Rattle.std.specs.Prelude.{◌≡◌, ◌≢◌, ℕ, List, false, IsErr, Option, Result}
use Rattle.std.specs.Global.{Vec}
use Rattle.std.specs.Result.{result_err}
use Rattle.mav_links.specs.Links.{LinkState}
use Rattle.live_node.specs.Runs.{Stores}
use Rattle.run_status.specs.declared.run_ends.RunEnd.{RunEnd}
use Rattle.run_status.specs.Runs.{CommandSpec}
use Rattle.command_line.specs.declared.commands.Command.{Command}
use Rattle.command_line.specs.declared.commands.Command.TheVariants.{Fleet, Dialect, Decode, Route, Drone, Station}
use Rattle.command_line.specs.declared.commands.Command.TheVariants.{Make, LogShow, LogFilter, LogMake, Fence}
use Rattle.command_line.specs.declared.commands.OptionName.TheVariants.{Frames, Key, Defs, File}
use Rattle.command_line.specs.Forms.{has_given, reads_file}
use Rattle.command_line.specs.Grammar.{Asked}
use Rattle.fence_command.specs.Spec.{fence_spec}
use Rattle.make_command.specs.Spec.{make_spec}
use Rattle.route_command.specs.Promises.{RoutePromises}
use Rattle.route_command.specs.Routes.{Ports, RoutesBeforeStatus}
use Rattle.decode_command.specs.Decoding.{Decodes}
use Rattle.dialect_command.specs.Dialects.{Dialects}
use Rattle.fleet_line.specs.Fleets.{Fleets}
use Rattle.live_node.specs.DroneAsked.{Devices, devices, Flown}
use Rattle.mav_log.specs.Logging.{Logs}
use Rattle.station_cli.specs.Making.{Makes}
use Rattle.live_node.specs.Reported.{Reported}
use Rattle.route_command.specs.Routing.{Routing, router_of}
use Rattle.command_inputs.specs.NamedKeys.{WithGivenKey}
use Rattle.run_status.specs.Seen.{Input, Output, input_of, no_input, before_status_over, promised_over}
use Rattle.live_node.specs.StationAsked.{Stationed, Stationing, file_asked}
use Rattle.station_cli.specs.Wants.{keepers_asked}
use Rattle.command_inputs.specs.declared.inputs.Inputs.{Inputs}

-- how a run is told: before the text of its status is written, or after it
pub record Telling : Type 1 where
  -- a command's run over an input
  pub over : CommandSpec → Input → Type 0
  -- the run halted
  pub halted : Type 0
  -- a router's run at these ports
  pub routed : Ports → Type 0
  -- a live node's run, by the output and why it ended
  pub ran : (Output → Option RunEnd → Type 0) → Type 0

abbrev pub before_status : Output → Result (Unit {0}) RunEnd → Telling
before_status out ended = record {
  over = before_status_over out (result_err ended);
  halted = IsErr ended;
  routed = λ p. RoutesBeforeStatus p (result_err ended) out.refusals_before out.refusals_after out.sent_before
      out.sent_after;
  ran = λ Ran. Ran out (result_err ended);
}

abbrev pub once_told : Output → ℕ → Telling
once_told out code = record {
  over = promised_over out code;
  halted = code ≢ 0;
  routed = λ p. RoutePromises p out.refusals_before out.refusals_after out.sent_before out.sent_after code;
  ran = λ Ran. Reported Ran out code;
}

-- the inputs, ports, stores and clock of a run, before it and after it
pub record Surroundings (A B : Type 0) : Type 1 where
  pub key : Input
  pub defs : Input
  pub main : Input
  pub devices : Devices A B
  -- they are unchanged
  pub same_ports : Type 0
  pub same_keepers : Type 0
  pub same_clock : Type 0

-- by what contracts see of a source, of a port, of a store and of the clock
abbrev pub surroundings : {S A B C : Type 0} → (S → Type 0) → (S → ℕ) → (S → ℕ) → (S → Option (List ℕ))
    → (A → LinkState) → Stores B → (C → Option ℕ)
    → (inputs_before inputs_after : Inputs S) → (ports_before ports_after : Vec A)
    → (keepers_before keepers_after : Vec B) → (clock_before clock_after : C) → Surroundings A B
surroundings has_ended faults idles left state stores always inputs_before inputs_after ports_before ports_after
    keepers_before keepers_after clock_before clock_after = record {
      key = input_of has_ended faults idles left inputs_before.key inputs_after.key;
      defs = input_of has_ended faults idles left inputs_before.defs inputs_after.defs;
      main = input_of has_ended faults idles left inputs_before.main inputs_after.main;
      devices = devices state stores always ports_before.items ports_after.items keepers_before.items keepers_after.items
          clock_before clock_after;
      same_ports = ports_after ≡ ports_before;
      same_keepers = keepers_after ≡ keepers_before;
      same_clock = clock_after ≡ clock_before;
    }

-- `log show [--defs F] FILE`, `log filter [--defs F] SYS FILE` and `log make [--defs F] START FILE`: the run halts at
-- the definitions, with nothing written of them and the main input unread; or they are read, if the words name them,
-- and the command runs over the main input by them
abbrev pub LogsAsked : {A B : Type 0} → Telling → Surroundings A B → Asked → Command → Type 0
LogsAsked t s asked command = Logs command asked.plain (has_given Defs asked.settings) t.over t.halted s.defs s.main

-- what each command does with its options and plain words
abbrev pub Does : {A B : Type 0} → Telling → Surroundings A B → Asked → Command → Type 0
-- `fleet [--frames] [--key F] FILE`: the run halts at the key, and the main input isn't read; or
-- the key is read, if the words name one, and the main input is played under it
Does t s asked Fleet =
    Fleets (has_given Key asked.settings) (has_given Frames asked.settings) t.over t.halted s.key s.main
Does t s asked Dialect = Dialects (has_given Defs asked.settings) t.over s.defs
-- `decode [--defs F] [--key F] FILE`: the run halts at the key, and no other input is read; or at
-- the definitions, as `dialect` would, with nothing written of them and the main input unread; or
-- they are read, if the words name them, and the main input is decoded by them
Does t s asked Decode =
    Decodes (has_given Key asked.settings) (has_given Defs asked.settings) t.over t.halted s.key s.defs s.main
-- `route --key F [--defs F] [--one] [--turns N] PORT..`: the run halts at the key, or at the definitions, and the
-- ports are as they were; or both are read, or the profile is taken, and the router runs over the ports. What is
-- promised of that is the same with threads and without
Does t s asked Route =
    Routing (has_given Defs asked.settings) t.over t.halted s.same_ports
    (λ key known. t.routed (router_of s.devices.state asked s.devices.ports_before s.devices.ports_after key known))
    s.key s.defs
-- `drone --key F [--store F] [--turns N] SYS PORT`: the run halts at the key, and the port, the store and the clock
-- are as they were; or the key is read, and the drone runs at the port, with the plans of its store, or without any
Does t s asked Drone =
    WithGivenKey t.over t.halted (s.same_ports × s.same_keepers × s.same_clock) s.key
    (λ bytes. t.ran (λ written end. Flown s.devices asked written end bytes))
-- `station --key F [--ticks N] [--file F] SYS COMP DRONE PORT OP..`: the run halts at the key or at the file, and the
-- port and the clock are as they were; or both are read, and the station runs at the port with its one operation. The
-- bytes that an operation on files gives come after all its lines
Does t s asked Station =
    Stationing t.over t.halted (s.same_ports × s.same_keepers × s.same_clock) (file_asked asked) s.key s.main
    (λ bytes contents. t.ran (λ written end. Stationed s.devices asked written end bytes contents))
-- `make N`, over no input
Does t s asked Make = Makes asked.plain (λ number. t.over (make_spec number) no_input)
Does t s asked LogShow = LogsAsked t s asked LogShow
Does t s asked LogFilter = LogsAsked t s asked LogFilter
Does t s asked LogMake = LogsAsked t s asked LogMake
-- `fence FILE`
Does t s asked Fence = t.over fence_spec s.main

-- an input that the words don't name isn't read; a port is called only by `route`, `drone` and `station`, a store only
-- by a drone whose words name it, and the time is asked only by `drone` and `station`
pub record LeavesAlone {A B : Type 0} (s : Surroundings A B) (asked : Asked) : Type 0 where
  pub unread_main : reads_file asked.command ≡ false → has_given File asked.settings ≡ false → s.main.unread
  pub unread_defs : has_given Defs asked.settings ≡ false → s.defs.unread
  pub unread_key : has_given Key asked.settings ≡ false → s.key.unread
  pub unmoved : asked.command ≢ Route → asked.command ≢ Drone → asked.command ≢ Station → s.same_ports
  pub unkept : keepers_asked asked ≡ 0 → s.same_keepers
  pub unasked : asked.command ≢ Drone → asked.command ≢ Station → s.same_clock
