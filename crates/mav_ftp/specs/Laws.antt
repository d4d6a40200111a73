-- What is shown of a server: a file is written piece by piece, and is seen when its session ends.
use Rattle.std.specs.Prelude.{◌≡◌, ℕ, ◌+◌, ◌<◌, ◌≤◌, true, false, List, [], ◌∷◌, ◌++◌, length, All, Some, None}
use Rattle.mav_names.specs.declared.names.Stream.{Stream}
use Rattle.mav_ftp.specs.Payload.{most_data, most_file, create_file, write_file, terminate_session, is_file_name}
use Rattle.mav_ftp.specs.Payload.{ftp_payload}
use Rattle.mav_ftp.specs.Files.{most_files}
use Rattle.mav_ftp.specs.Sessions.{free_session}
use Rattle.mav_ftp.specs.Exchanges.{kept_reply, is_full_for}
use Rattle.mav_ftp.specs.Server.{FilesState, files_after, file_named}

-- a piece of a file, with the sequence number of its request
pub record Piece : Type 0 where
  pub seq : ℕ
  pub bytes : List ℕ

abbrev pub request : ℕ → ℕ → ℕ → ℕ → List ℕ → List ℕ
request seq session opcode offset bytes =
    ftp_payload (record {
      seq = seq;
      session = session;
      opcode = opcode;
      size = length bytes;
      req_opcode = 0;
      offset = offset;
    }) bytes

-- CreateFile, WriteFile and TerminateSession
abbrev pub create_request : ℕ → List ℕ → List ℕ
create_request seq name = request seq 0 create_file 0 name

abbrev pub write_request : ℕ → ℕ → Piece → List ℕ
write_request session offset p = request p.seq session write_file offset p.bytes

abbrev pub end_request : ℕ → ℕ → List ℕ
end_request seq session = request seq session terminate_session 0 []

-- the state after pieces were written one after another, from an offset on
abbrev pub after_pieces : FilesState → Stream → ℕ → ℕ → List Piece → FilesState
after_pieces st from session offset [] = st
after_pieces st from session offset (p ∷ ps) =
    after_pieces (files_after st from (write_request session offset p)) from session (offset + length p.bytes) ps

abbrev pub all_bytes : List Piece → List ℕ
all_bytes [] = []
all_bytes (p ∷ ps) = p.bytes ++ all_bytes ps

-- a stream can make a file of this name in this session: there is no such file, there is room, the session is the
-- lowest free one, and the request isn't a repetition
pub record CanCreate (st : FilesState) (from : Stream) (session seq : ℕ) (name : List ℕ) : Type 0 where
  pub named : is_file_name name ≡ true
  pub new : file_named st name ≡ None
  pub room : length st.files < most_files
  pub free : free_session st.sessions ≡ Some session
  pub known : is_full_for st.exchanges from ≡ false
  pub fresh : kept_reply st.exchanges from (create_request seq name) ≡ None

-- none is empty, each fits into a payload, and all together fit into a file
pub record AreWritable (pieces : List Piece) : Type 0 where
  pub each : All (λ p. (0 < length p.bytes) × (length p.bytes ≤ most_data)) pieces
  pub whole : length (all_bytes pieces) ≤ most_file

-- before the session ends
abbrev pub written : FilesState → Stream → ℕ → ℕ → List ℕ → List Piece → FilesState
written st from session seq name pieces =
    after_pieces (files_after st from (create_request seq name)) from session 0 pieces
