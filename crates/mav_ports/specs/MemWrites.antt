-- What a sink over memory holds, what its next write returns, and what it holds then.
use Rattle.std.specs.Prelude.{◌==◌, ◌-◌, ◌++◌, ℕ, List, [], length, take, min, Some, if◌then◌else◌}
use Rattle.std.specs.declared.option.Option.{Option}
use Rattle.mav_ports.specs.declared.sinks.Put.{Put}
use Rattle.mav_ports.specs.declared.sinks.Put.TheVariants.{Took, Failed}
use Rattle.mav_ports.specs.Calls.{is_listed, call_after}
use Rattle.mav_ports.specs.Counts.{next_count}

-- a memory sink between two writes
pub record MemWrites : Type 0 where
  -- the bytes that it was sent
  pub sent : List ℕ
  -- how many bytes it has room for in all
  pub room : ℕ
  -- the chunk size: no write takes more bytes
  pub chunk : ℕ
  -- the numbers of the calls that fail
  pub fails : List ℕ
  -- the number of the next call
  pub call : Option ℕ
  -- how many calls failed
  pub faults : ℕ

-- before the first write
abbrev pub writes_from_start : ℕ → ℕ → List ℕ → MemWrites
writes_from_start room chunk fails =
    record { sent = []; room = room; chunk = chunk; fails = fails; call = Some 0; faults = 0 }

-- Failed if no room is left, and otherwise the least of the room, the chunk size and the bytes offered
abbrev pub taken_or_full : ℕ → ℕ → ℕ → Put
taken_or_full room chunk offered = if room == 0 then Failed else Took (min (min room chunk) offered)

-- what the next write of `offered` bytes returns
abbrev pub write_answer : MemWrites → ℕ → Put
write_answer s offered =
    if is_listed s.fails s.call then Failed else taken_or_full (s.room - length s.sent) s.chunk offered

-- what the sink holds after a write of these bytes
abbrev pub after_write : MemWrites → Put → List ℕ → MemWrites
after_write s (Took n) bytes = record s { sent = s.sent ++ take n bytes; call = call_after s.call }
after_write s Failed bytes = record s { faults = next_count s.faults; call = call_after s.call }
