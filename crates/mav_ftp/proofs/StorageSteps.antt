-- What the requests of an upload make of files and sessions.
use Rattle.std.proofs.Common.{◌≡◌, ◌<◌, ◌≤◌, ℕ, ◌+◌, nat_lt, not, true, false, if◌then◌else◌, List, [], ◌∷◌, ◌++◌, length, Some, None, refl, ap, ◌∙◌, append-nil, arith}
use Rattle.std.specs.Prelude.{is_some}
use Rattle.std.proofs.lemmas.List.{take_all, drop_all}
use Rattle.mav_names.specs.declared.names.Stream.{Stream}
use Rattle.mav_ftp.specs.declared.payload.FtpFields.{FtpFields}
use Rattle.mav_ftp.specs.Payload.{most_data, most_file, is_file_name, fail, file_exists, invalid_data_size}
use Rattle.mav_ftp.specs.Files.{file_at, most_files}
use Rattle.mav_ftp.specs.Sessions.{Session, session_of, free_session, overwritten}
use Rattle.mav_ftp.specs.Steps.{Storage, refuses, accepts, with_session, creates, creates_in, writes, writes_unless, write_error, with_bytes, terminates, ends, storage_step}

-- the numbers of a request
abbrev numbers : ℕ → ℕ → ℕ → ℕ → ℕ → FtpFields
numbers seq session opcode size offset = record { seq = seq; session = session; opcode = opcode; size = size; req_opcode = 0; offset = offset }

not_above : (most n : ℕ) → n ≤ most → nat_lt most n ≡ false
not_above most n h = grind arith

lt_true : (m n : ℕ) → m < n → nat_lt m n ≡ true
lt_true m n h = grind arith

-- CreateFile
pub created : (st : Storage) (from : Stream) (seq size k : ℕ) (name : List ℕ) → size ≤ most_data → is_file_name name ≡ true → file_at st.files name ≡ None
    → free_session st.sessions ≡ Some k
    → (storage_step st from (numbers seq 0 6 size 0) name).storage ≡ with_session st k (Some (record { stream = from; name = Some name; bytes = [] }))
created st from seq size k name short named new free =
    let r = numbers seq 0 6 size 0 in
    ap (λ t. (if t then refuses st r invalid_data_size else creates st from r name).storage) (not_above most_data size short)
    ∙ (ap (λ t. (if not t then refuses st r fail else if is_some (file_at st.files name) then refuses st r file_exists else creates_in st from r name (free_session st.sessions)).storage) named
    ∙ (ap (λ found. (if is_some found then refuses st r file_exists else creates_in st from r name (free_session st.sessions)).storage) new
    ∙ ap (λ slot. (creates_in st from r name slot).storage) free))

-- WriteFile at the end of what is held
no_error : (r : FtpFields) (bytes name : List ℕ) (s : Session) → s.name ≡ Some name → r.offset ≡ length s.bytes → length s.bytes + length bytes ≤ most_file → write_error r bytes s ≡ None
no_error r bytes name s named at fits =
    let within : nat_lt (length s.bytes) r.offset ≡ false = not_above (length s.bytes) r.offset (omega (arith, at)) in
    let whole : nat_lt most_file (r.offset + length bytes) ≡ false = not_above most_file (r.offset + length bytes) (omega (arith, at, fits)) in
    rw (named, within, whole) refl

at_end : (held bytes : List ℕ) → overwritten held (length held) bytes ≡ held ++ bytes
at_end held bytes =
    rw (take_all (length held) held (omega arith), drop_all (length held + length bytes) held (omega arith)) (ap (λ z. held ++ z) (append-nil bytes))

pub appended : (st : Storage) (from : Stream) (seq k size offset : ℕ) (bytes name : List ℕ) (s : Session) → size ≤ most_data → session_of st.sessions from k ≡ Some s
    → s.name ≡ Some name → offset ≡ length s.bytes → length s.bytes + length bytes ≤ most_file
    → (storage_step st from (numbers seq k 7 size offset) bytes).storage ≡ with_session st k (Some (with_bytes s (s.bytes ++ bytes)))
appended st from seq k size offset bytes name s short found named at fits =
    let r = numbers seq k 7 size offset in
    ap (λ t. (if t then refuses st r invalid_data_size else writes st r bytes (session_of st.sessions from k)).storage) (not_above most_data size short)
    ∙ (ap (λ f. (writes st r bytes f).storage) found
    ∙ (ap (λ e. (writes_unless st r bytes s e).storage) (no_error r bytes name s named at fits)
    ∙ ap (λ b. with_session st k (Some (with_bytes s b))) (ap (λ n. overwritten s.bytes n bytes) at ∙ at_end s.bytes bytes)))

-- TerminateSession
abbrev with_file : Storage → List ℕ → List ℕ → Storage
with_file st name bytes = record st { files = st.files ++ record { name = name; bytes = bytes } ∷ [] }

pub ended : (st : Storage) (from : Stream) (seq k : ℕ) (bytes name : List ℕ) (s : Session) → session_of st.sessions from k ≡ Some s → s.name ≡ Some name
    → file_at st.files name ≡ None → length st.files < most_files
    → (storage_step st from (numbers seq k 1 0 0) bytes).storage.files ≡ st.files ++ record { name = name; bytes = s.bytes } ∷ []
ended st from seq k bytes name s found named new room =
    let r = numbers seq k 1 0 0 in
    let closed = with_session st k None in
    ap (λ f. (terminates st r f).storage.files) found
    ∙ (ap (λ n. (ends closed r n s.bytes).storage.files) named
    ∙ (ap (λ f. (if is_some f then refuses closed r file_exists else if not (nat_lt (length st.files) most_files) then refuses closed r fail else accepts (with_file closed name s.bytes) r []).storage.files) new
    ∙ ap (λ t. (if not t then refuses closed r fail else accepts (with_file closed name s.bytes) r []).storage.files) (lt_true (length st.files) most_files room)))
