-- What a source over memory holds, what its next read returns, and what it holds then.
use Rattle.std.specs.Prelude.{◌==◌, ◌++◌, ℕ, Bool, true, false, List, length, take, drop, min, Some, if◌then◌else◌}
use Rattle.std.specs.declared.option.Option.{Option}
use Rattle.mav_ports.specs.declared.sources.Got.{Got}
use Rattle.mav_ports.specs.declared.sources.Got.TheVariants.{Bytes, Idle, End, Failed}
use Rattle.mav_ports.specs.Calls.{is_listed, call_after}
use Rattle.mav_ports.specs.Counts.{next_count}

-- a memory source between two reads
pub record MemReads : Type 0 where
  -- the bytes that it has left
  pub left : List ℕ
  -- the chunk size: no read gives more bytes
  pub chunk : ℕ
  -- the numbers of the calls that fail
  pub fails : List ℕ
  -- the numbers of the calls that idle
  pub idles : List ℕ
  -- the number of the next call
  pub call : Option ℕ
  -- how many calls failed
  pub faults : ℕ
  -- how many calls idled
  pub idled : ℕ
  -- it has returned End
  pub ended : Bool

-- before the first read
abbrev pub reads_from_start : List ℕ → ℕ → List ℕ → List ℕ → MemReads
reads_from_start bytes chunk fails idles =
    record {
      left = bytes;
      chunk = chunk;
      fails = fails;
      idles = idles;
      call = Some 0;
      faults = 0;
      idled = 0;
      ended = false;
    }

-- End if nothing is left, and otherwise the least of what is left, the chunk size and the buffer
abbrev pub bytes_or_end : List ℕ → ℕ → ℕ → Got
bytes_or_end left chunk room = if length left == 0 then End else Bytes (min (min (length left) chunk) room)

-- what the next read returns, into a buffer of `room` bytes
abbrev pub read_answer : MemReads → ℕ → Got
read_answer s room =
    if s.ended then End
    else (if is_listed s.fails s.call then Failed
    else (if is_listed s.idles s.call then Idle
    else bytes_or_end s.left s.chunk room))

-- what the source holds after a result
abbrev pub after_read : MemReads → Got → MemReads
after_read s (Bytes n) = record s { left = drop n s.left; call = call_after s.call }
after_read s Idle = record s { idled = next_count s.idled; call = call_after s.call }
after_read s End = record s { ended = true; call = call_after s.call }
after_read s Failed = record s { faults = next_count s.faults; call = call_after s.call }

-- the buffer after a read: it starts with the bytes given, and the rest of it stays
abbrev pub buffer_after : Got → List ℕ → List ℕ → List ℕ
buffer_after (Bytes n) left buf = take n left ++ drop n buf
buffer_after Idle left buf = buf
buffer_after End left buf = buf
buffer_after Failed left buf = buf
