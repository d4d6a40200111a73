-- What an infallible source over memory holds, what its next read returns, and what it holds then.
use Rattle.std.specs.Prelude.{◌==◌, ℕ, Bool, true, List, length, drop, min, if◌then◌else◌}
use Rattle.mav_ports.specs.declared.sources.Got.{Got}
use Rattle.mav_ports.specs.declared.sources.Got.TheVariants.{Bytes, Idle, End, Failed}

-- an infallible source between two reads
pub record SureReads : Type 0 where
  -- the bytes that it has left
  pub left : List ℕ
  -- it has returned End
  pub ended : Bool

-- End if nothing is left, and otherwise the least of what is left and the buffer
abbrev pub sure_answer : SureReads → ℕ → Got
sure_answer s room = if length s.left == 0 then End else Bytes (min (length s.left) room)

-- what the source holds after a result
abbrev pub after_sure_read : SureReads → Got → SureReads
after_sure_read s (Bytes n) = record s { left = drop n s.left }
after_sure_read s Idle = s
after_sure_read s End = record s { ended = true }
after_sure_read s Failed = s
