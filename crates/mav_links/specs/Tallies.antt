-- What an adapter over the system counts.
use Rattle.std.specs.Prelude.{false}
use Rattle.mav_links.specs.declared.tallies.Tally.{Tally}

-- before the first call
abbrev pub nothing_counted : Tally
nothing_counted = record { faults = 0; idles = 0; ended = false }
