-- What an infallible sink over memory holds, what its next write returns, and what it holds then.
use Rattle.std.specs.Prelude.{◌==◌, ◌-◌, ◌++◌, ℕ, List, length, take, min, if◌then◌else◌}
use Rattle.mav_ports.specs.declared.sinks.Put.{Put}
use Rattle.mav_ports.specs.declared.sinks.Put.TheVariants.{Took, Failed}
use Rattle.mav_ports.specs.Counts.{next_count}

-- an infallible sink between two writes
pub record SureWrites : Type 0 where
  -- the bytes that it was sent
  pub sent : List ℕ
  -- how many bytes it has room for in all
  pub room : ℕ
  -- how many calls found no room
  pub faults : ℕ

-- Failed if no room is left, and otherwise the least of the room and the bytes offered
abbrev pub sure_put : SureWrites → ℕ → Put
sure_put s offered = let room = s.room - length s.sent in if room == 0 then Failed else Took (min room offered)

-- what the sink holds after a write of these bytes
abbrev pub after_sure_write : SureWrites → Put → List ℕ → SureWrites
after_sure_write s (Took n) bytes = record s { sent = s.sent ++ take n bytes }
after_sure_write s Failed bytes = record s { faults = next_count s.faults }
