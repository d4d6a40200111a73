-- What each opcode does to files and sessions, and its reply (MAVLink guide, File Transfer Protocol: Opcodes).
use Rattle.std.specs.Prelude.{ℕ, ◌+◌, ◌==◌, ◌&&◌, ◌||◌, nat_lt, nat_le, not, if◌then◌else◌, Bool, List, [], ◌∷◌, ◌++◌}
use Rattle.std.specs.Prelude.{length, take, drop, slice_set, is_some, Option, Some, None}
use Rattle.std.specs.Int.{w32, to_le_bytes}
use Rattle.std.specs.List.{remove}
use Rattle.mav_names.specs.declared.names.Stream.{Stream}
use Rattle.mav_ftp.specs.declared.payload.FtpFields.{FtpFields}
use Rattle.mav_ftp.specs.Payload.{most_data, most_file, terminate_session, reset_sessions, list_directory}
use Rattle.mav_ftp.specs.Payload.{open_file_ro, read_file, create_file, write_file, remove_file, fail}
use Rattle.mav_ftp.specs.Payload.{invalid_data_size, invalid_session, no_sessions_available, end_of_file}
use Rattle.mav_ftp.specs.Payload.{unknown_command, file_exists, file_not_found, is_file_name}
use Rattle.mav_ftp.specs.Replies.{ack_of, nak_of}
use Rattle.mav_ftp.specs.Files.{File, most_files, file_at, bytes_named}
use Rattle.mav_ftp.specs.Sessions.{Session, session_of, free_session, sessions_without, overwritten}
use Rattle.mav_ftp.specs.Listing.{entries_within, is_root}

pub record Storage : Type 0 where
  pub files : List File
  pub sessions : List (Option Session)

-- the storage after a request, and the reply
pub record Served : Type 0 where
  pub storage : Storage
  pub reply : List ℕ

abbrev pub refuses : Storage → FtpFields → ℕ → Served
refuses st r error = record { storage = st; reply = nak_of r error }

abbrev pub accepts : Storage → FtpFields → List ℕ → Served
accepts st r bytes = record { storage = st; reply = ack_of r r.session bytes }

abbrev pub with_session : Storage → ℕ → Option Session → Storage
with_session st number slot = record st { sessions = slice_set st.sessions number slot }

-- TerminateSession: the bytes of a session that writes become the file
abbrev pub publishes : Storage → FtpFields → List ℕ → List ℕ → Served
publishes st r name bytes =
    if is_some (file_at st.files name) then refuses st r file_exists
    else if not (nat_lt (length st.files) most_files) then refuses st r fail
    else accepts (record st { files = st.files ++ record { name = name; bytes = bytes } ∷ [] }) r []

abbrev pub ends : Storage → FtpFields → Option (List ℕ) → List ℕ → Served
ends st r None bytes = accepts st r []
ends st r (Some name) bytes = publishes st r name bytes

abbrev pub terminates : Storage → FtpFields → Option Session → Served
terminates st r None = refuses st r invalid_session
terminates st r (Some s) = ends (with_session st r.session None) r s.name s.bytes

-- ResetSessions
abbrev pub resets : Storage → Stream → FtpFields → Served
resets st from r = accepts (record st { sessions = sessions_without st.sessions from }) r []

-- ListDirectory: from a number of an entry on
abbrev pub lists_from : Storage → FtpFields → List File → Served
lists_from st r [] = refuses st r end_of_file
lists_from st r (f ∷ fs) = accepts st r (entries_within most_data (f ∷ fs))

abbrev pub lists : Storage → FtpFields → List ℕ → Served
lists st r path = if is_root path then lists_from st r (drop r.offset st.files) else refuses st r file_not_found

-- a session is opened
abbrev pub opens_session : Storage → FtpFields → ℕ → Session → List ℕ → Served
opens_session st r number s bytes = record { storage = with_session st number (Some s); reply = ack_of r number bytes }

-- OpenFileRO: the data is the file's size. Bytes that can't be a name are those of no file
abbrev pub opens : Storage → Stream → FtpFields → Option (List ℕ) → Option ℕ → Served
opens st from r None slot = refuses st r file_not_found
opens st from r (Some bytes) None = refuses st r no_sessions_available
opens st from r (Some bytes) (Some number) =
    opens_session st r number (record { stream = from; name = None; bytes = bytes }) (to_le_bytes w32 (length bytes))

-- ReadFile
abbrev pub reads_from : Storage → FtpFields → Option (List ℕ) → List ℕ → Served
reads_from st r (Some name) bytes = refuses st r invalid_session
reads_from st r None bytes =
    if nat_lt r.offset (length bytes) then accepts st r (take r.size (drop r.offset bytes))
    else refuses st r end_of_file

abbrev pub reads : Storage → FtpFields → Option Session → Served
reads st r None = refuses st r invalid_session
reads st r (Some s) = reads_from st r s.name s.bytes

-- CreateFile
abbrev pub creates_in : Storage → Stream → FtpFields → List ℕ → Option ℕ → Served
creates_in st from r name None = refuses st r no_sessions_available
creates_in st from r name (Some number) =
    opens_session st r number (record { stream = from; name = Some name; bytes = [] }) []

abbrev pub creates : Storage → Stream → FtpFields → List ℕ → Served
creates st from r name =
    if not (is_file_name name) then refuses st r fail
    else if is_some (file_at st.files name) then refuses st r file_exists
    else creates_in st from r name (free_session st.sessions)

-- WriteFile: in a session that writes, without a hole, and up to the largest file
abbrev pub write_error : FtpFields → List ℕ → Session → Option ℕ
write_error r bytes s =
    if not (is_some s.name) then Some invalid_session
    else if nat_lt (length s.bytes) r.offset || nat_lt most_file (r.offset + length bytes) then Some fail
    else None

abbrev pub with_bytes : Session → List ℕ → Session
with_bytes s bytes = record s { bytes = bytes }

abbrev pub writes_unless : Storage → FtpFields → List ℕ → Session → Option ℕ → Served
writes_unless st r bytes s (Some error) = refuses st r error
writes_unless st r bytes s None =
    accepts (with_session st r.session (Some (with_bytes s (overwritten s.bytes r.offset bytes)))) r []

abbrev pub writes : Storage → FtpFields → List ℕ → Option Session → Served
writes st r bytes None = refuses st r invalid_session
writes st r bytes (Some s) = writes_unless st r bytes s (write_error r bytes s)

-- RemoveFile: bytes that can't be a name are those of no file here too
abbrev pub removes : Storage → FtpFields → Option ℕ → Served
removes st r None = refuses st r file_not_found
removes st r (Some index) = accepts (record st { files = remove st.files index }) r []

-- which opcode a request has
abbrev pub serves : Storage → Stream → FtpFields → List ℕ → Served
serves st from r bytes =
    if r.opcode == terminate_session then terminates st r (session_of st.sessions from r.session)
    else if r.opcode == reset_sessions then resets st from r
    else if r.opcode == list_directory then lists st r bytes
    else if r.opcode == open_file_ro then opens st from r (bytes_named st.files bytes) (free_session st.sessions)
    else if r.opcode == read_file then reads st r (session_of st.sessions from r.session)
    else if r.opcode == create_file then creates st from r bytes
    else if r.opcode == write_file then writes st r bytes (session_of st.sessions from r.session)
    else removes st r (file_at st.files bytes)

abbrev pub is_known : ℕ → Bool
is_known opcode = nat_le terminate_session opcode && nat_le opcode remove_file

-- what is tested before
abbrev pub storage_step : Storage → Stream → FtpFields → List ℕ → Served
storage_step st from r bytes =
    if not (is_known r.opcode) then refuses st r unknown_command
    else if nat_lt most_data r.size then refuses st r invalid_data_size
    else serves st from r bytes
