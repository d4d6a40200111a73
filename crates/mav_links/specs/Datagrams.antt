-- How many bytes of a write go out in one datagram: one frame, though frames are written together.
use Rattle.std.specs.Prelude.{ℕ, ◌+◌, ◌-◌, ◌%◌, ◌==◌, nat_lt, if◌then◌else◌, min, List, drop, length, slice_index}
use Rattle.std.specs.Prelude.{take}

-- the most bytes that a datagram over IPv4 carries
abbrev pub most_sent : ℕ
most_sent = 65507

-- the length that a header fixes, if one begins these bytes, of which there are at least three: a frame of MAVLink 2
-- has 12 bytes beside its payload, and 13 more if its flags say that it is signed, one of MAVLink 1 has 8 (MAVLink
-- guide, Packet serialisation)
abbrev pub size_by_header : List ℕ → ℕ
size_by_header bytes =
    if slice_index bytes 0 == 0xFD then (if slice_index bytes 2 % 2 == 1 then 25 + slice_index bytes 1
    else 12 + slice_index bytes 1)
    else if slice_index bytes 0 == 0xFE then 8 + slice_index bytes 1
    else length bytes

-- the first frame, or as many bytes as there are and a datagram carries
abbrev pub datagram_size : List ℕ → ℕ
datagram_size bytes =
    if nat_lt (length bytes) 3 then length bytes else min (size_by_header bytes) (min (length bytes) most_sent)

-- the bytes from one index of a buffer to another
abbrev pub bytes_between : (start end : ℕ) → List ℕ → List ℕ
bytes_between start end bytes = take (end - start) (drop start bytes)
