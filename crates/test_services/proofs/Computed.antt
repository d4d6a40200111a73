-- The worked examples, computed.
use Rattle.std.proofs.Common.{refl}
use Rattle.test_services.specs.Commands.{WorkedCommands}
use Rattle.test_services.specs.Params.{WorkedParams}
use Rattle.test_services.specs.Flights.{WorkedFlights}

pub worked_commands : WorkedCommands
worked_commands = record { day = refl; armed = refl; last_stream = refl; one_more = refl; kept = refl }

pub worked_params : WorkedParams
worked_params = record {
  negative = refl;
  wide = refl;
  other_type = refl;
  gaps = refl;
  nearly = refl;
  whole = refl;
  ended = refl;
}

pub worked_flights : WorkedFlights
worked_flights = record {
  day = refl;
  landed = refl;
  stays = refl;
  up = refl;
  down = refl;
  nearly = refl;
  nearly_down = refl;
  across = refl;
  whole = refl;
  stays_there = refl;
  slow = refl;
  full = refl;
  stays_full = refl;
  home = refl;
  not_yet = refl;
  at_home = refl;
  stopped = refl;
}
