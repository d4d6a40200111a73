-- What contracts see of a station.
use Rattle.std.specs.Option.{option_map}
use Rattle.plan_upload.specs.Station.{StationState}
use Rattle.plan_upload.specs.Operations.{operation_view}
use Rattle.plan_upload.specs.Outcomes.{told_of}
use Rattle.plan_upload.specs.declared.station.Station.TheInside.{Inside}

abbrev pub station_view : Inside → StationState
station_view s = record {
  me = s.me;
  boot = s.boot;
  pings = s.pings;
  synced = s.synced;
  operation = operation_view s.operation;
  outcome = option_map told_of s.outcome;
}
