-- What is at the start of some bytes, in the order of the tests.
use Rattle.std.specs.Prelude.{ℕ, ◌+◌, ◌-◌, ◌==◌, ◌&&◌, ◌∷◌, [], ◌++◌, Bool, true, false, List, length, slice_index}
use Rattle.std.specs.Prelude.{slice_range, nat_lt, not, Option, Some, None, if◌then◌else◌}
use Rattle.x25_check.specs.Check.{check}
use Rattle.x25_check.specs.Extras.{extra_of}
use Rattle.mav_frame.specs.Numbers.{number_at}
use Rattle.mav_frame.specs.Packet.{SignatureBlock, Packet}
use Rattle.mav_frame.specs.declared.looks.Look.{Look}
use Rattle.mav_frame.specs.declared.looks.Look.TheVariants.{Frame, NotHere, More}
use Rattle.mav_frame.specs.declared.looks.FrameCheck.{FrameCheck}
use Rattle.mav_frame.specs.declared.looks.FrameCheck.TheVariants.{Whole, NotHere as HereNot, More as MoreOf}
use Rattle.mav_frame.specs.declared.looks.Why.TheVariants.{NotStx, UnknownFlag, UnknownId, BadCheck}

-- In what follows the Bool says that the frame is one of MAVLink 1; only `look_of` and `is_old_at` take the one that
-- says that such frames are read.

-- whether a frame of MAVLink 1 begins here, if such are read: its STX is 0xFE
abbrev pub is_old_at : Bool → List ℕ → Bool
is_old_at old b = old && (slice_index b 0 == 0xFE)

-- how many bytes a header has, STX included
abbrev pub header_size : Bool → ℕ
header_size true = 6
header_size false = 10

-- the message id of a header
abbrev pub id_at : Bool → List ℕ → ℕ
id_at true b = number_at 1 5 b
id_at false b = number_at 3 7 b

-- the checksum's offset, by LEN
abbrev pub check_offset : Bool → List ℕ → ℕ
check_offset old b = header_size old + slice_index b 1

-- how many bytes the signature block has, by the incompatibility flags
abbrev pub block_size_at : Bool → List ℕ → ℕ
block_size_at true b = 0
block_size_at false b = if slice_index b 2 == 0 then 0 else 13

-- the length that a header fixes
abbrev pub frame_size_at : Bool → List ℕ → ℕ
frame_size_at old b = check_offset old b + 2 + block_size_at old b

-- the signature block at an offset
abbrev pub block_at : ℕ → List ℕ → Option SignatureBlock
block_at at b =
    Some record { link = slice_index b at; stamp = number_at 6 (at + 1) b; sig = slice_range b (at + 7) (at + 13) }

-- the frame that the bytes would encode
abbrev pub packet_at : Bool → List ℕ → Packet
packet_at true b = record {
  old = true;
  compat = 0;
  seq = slice_index b 2;
  from = record { sys = slice_index b 3; comp = slice_index b 4 };
  id = id_at true b;
  payload = slice_range b 6 (check_offset true b);
  check = number_at 2 (check_offset true b) b;
  block = None;
}
packet_at false b = record {
  old = false;
  compat = slice_index b 3;
  seq = slice_index b 4;
  from = record { sys = slice_index b 5; comp = slice_index b 6 };
  id = id_at false b;
  payload = slice_range b 10 (check_offset false b);
  check = number_at 2 (check_offset false b) b;
  block = if slice_index b 2 == 0 then None else block_at (check_offset false b + 2) b;
}

-- the checksum of the bytes, with that CRC_EXTRA
abbrev pub checksum_at : Bool → ℕ → List ℕ → ℕ
checksum_at old extra b = check (slice_range b 1 (check_offset old b) ++ extra ∷ [])

-- after a whole header whose id has that CRC_EXTRA
abbrev pub look_known : Bool → ℕ → List ℕ → Look
look_known old extra b =
    if nat_lt (length b) (frame_size_at old b) then More (frame_size_at old b - length b)
    else if number_at 2 (check_offset old b) b == checksum_at old extra b
    then Frame (packet_at old b) (frame_size_at old b)
    else NotHere BadCheck

-- after a whole header
abbrev pub look_id : Bool → Option ℕ → List ℕ → Look
look_id old None b = NotHere UnknownId
look_id old (Some extra) b = look_known old extra b

-- after STX and the incompatibility flags
abbrev pub look_header : List (ℕ × ℕ) → Bool → List ℕ → Look
look_header extras old b =
    if nat_lt (length b) (header_size old) then More (header_size old - length b)
    else look_id old (extra_of (id_at old b) extras) b

-- as a frame of MAVLink 1, whose STX comes first, or of MAVLink 2
abbrev pub look_as : List (ℕ × ℕ) → Bool → List ℕ → Look
look_as extras true b = look_header extras true b
look_as extras false b =
    if nat_lt 0 (length b) && not (slice_index b 0 == 0xFD) then NotHere NotStx
    else if nat_lt (length b) 3 then More (3 - length b)
    else if nat_lt 1 (slice_index b 2) then NotHere UnknownFlag
    else look_header extras false b

abbrev pub look_of : List (ℕ × ℕ) → Bool → List ℕ → Look
look_of extras old b = look_as extras (is_old_at old b) b

-- what the bytes begin with, by a check of them
abbrev pub look_by : FrameCheck → Bool → List ℕ → Look
look_by (Whole size) old b = Frame (packet_at old b) size
look_by (HereNot why) old b = NotHere why
look_by (MoreOf lacking) old b = More lacking

-- a fact of a frame that was checked, and of its length
abbrev pub IfWhole : FrameCheck → (ℕ → Type 0) → Type 0
IfWhole (Whole size) P = P size
IfWhole (HereNot why) P = Unit {0}
IfWhole (MoreOf lacking) P = Unit {0}

-- a fact of a frame that was found, and of its length
abbrev pub IfFrame : Look → (Packet → ℕ → Type 0) → Type 0
IfFrame (Frame packet size) P = P packet size
IfFrame (NotHere why) P = Unit {0}
IfFrame (More lacking) P = Unit {0}
