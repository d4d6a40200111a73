-- A row of a telemetry log (.tlog, as MAVProxy and QGroundControl write it): the time in microseconds since 1970 as 8
-- bytes, highest byte first, and then the bytes of a frame of MAVLink 2 or of MAVLink 1.
use Rattle.std.specs.Prelude.{ℕ, ◌<◌, ◌^◌, true, List, ◌++◌, take, drop}
use Rattle.std.specs.Int.{w64, to_be_bytes, from_be_bytes}
use Rattle.mav_frame.specs.Packet.{FitsFrame}
use Rattle.mav_frame.specs.Encoding.{encoding}
use Rattle.mav_frame.specs.Looks.{is_old_at, packet_at}
use Rattle.log_rows.specs.declared.rows.Row.{Row}

-- the bytes of a row
abbrev pub row_encoding : Row → List ℕ
row_encoding row = to_be_bytes w64 row.micros ++ encoding row.frame

-- what a row can hold
pub record FitsRow (row : Row) : Type 0 where
  pub micros : row.micros < 2 ^ 64
  pub frame : FitsFrame row.frame

-- the time at the start of some bytes
abbrev pub micros_at : List ℕ → ℕ
micros_at b = from_be_bytes w64 (take 8 b)

-- the row that some bytes begin with, if there is one
abbrev pub first_row : List ℕ → Row
first_row b = record { micros = micros_at b; frame = packet_at (is_old_at true (drop 8 b)) (drop 8 b) }
