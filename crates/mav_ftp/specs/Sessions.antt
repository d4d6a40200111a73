-- Sessions, each of the stream that opened it (MAVLink guide, File Transfer Protocol: Sessions).
use Rattle.std.specs.Prelude.{ℕ, ◌+◌, if◌then◌else◌, Bool, not, List, ◌++◌, length, take, drop, map, position}
use Rattle.std.specs.Prelude.{slice_get, is_some, Option, Some, None}
use Rattle.mav_names.specs.declared.names.Stream.{Stream}
use Rattle.mav_names.specs.Addresses.{same_stream}

-- a session that writes has the name of the file to be, and the bytes written so far; one that reads has no name, and
-- the file's bytes as they were when it was opened
pub record Session : Type 0 where
  pub stream : Stream
  pub name : Option (List ℕ)
  pub bytes : List ℕ

-- the lowest number without a session
abbrev pub is_free : Option Session → Bool
is_free slot = not (is_some slot)

abbrev pub free_session : List (Option Session) → Option ℕ
free_session slots = position is_free slots

-- the session of a number, if it is one of the stream
abbrev pub if_of : Stream → Option Session → Option Session
if_of from None = None
if_of from (Some s) = if same_stream s.stream from then Some s else None

abbrev pub in_slot : Stream → Option (Option Session) → Option Session
in_slot from None = None
in_slot from (Some slot) = if_of from slot

abbrev pub session_of : List (Option Session) → Stream → ℕ → Option Session
session_of slots from number = in_slot from (slice_get slots number)

-- all sessions but those of a stream
abbrev pub unless_of : Stream → Option Session → Option Session
unless_of from None = None
unless_of from (Some s) = if same_stream s.stream from then None else Some s

abbrev pub sessions_without : List (Option Session) → Stream → List (Option Session)
sessions_without slots from = map (unless_of from) slots

-- the bytes held after others were written over them from an offset on
abbrev pub overwritten : List ℕ → ℕ → List ℕ → List ℕ
overwritten held offset bytes = take offset held ++ (bytes ++ drop (offset + length bytes) held)
