-- Files and sessions stay in range, whatever the requests are.
use Rattle.std.proofs.Common.{◌≡◌, ◌<◌, ◌≤◌, ℕ, suc, ◌+◌, ◌==◌, ◌||◌, nat_lt, not, Bool, true, false, List, [], ◌∷◌, ◌++◌, length, take, drop, Option, Some, None, refl, ◌∙◌, arith, All, subst}
use Rattle.std.specs.Prelude.{IfSome, slice_get, is_some}
use Rattle.std.specs.Int.{w32, to_le_bytes}
use Rattle.std.specs.List.{remove}
use Rattle.std.proofs.lemmas.List.{length-append, length-take, length-drop, length-map, length-set}
use Rattle.std.proofs.lemmas.List.Elements.{All-nil, All-cons, All-append, All-take, All-drop, All-map, All-set, All-weaker, All-get_or}
use Rattle.std.proofs.lemmas.Option.{slice_get_within, get_or_from_slice_get}
use Rattle.mav_names.specs.declared.names.Stream.{Stream}
use Rattle.mav_names.specs.Addresses.{same_stream}
use Rattle.mav_ftp.specs.declared.payload.FtpFields.{FtpFields}
use Rattle.mav_ftp.specs.Payload.{most_data, most_file, is_file_name, terminate_session, reset_sessions, list_directory, open_file_ro, read_file, create_file, write_file}
use Rattle.mav_ftp.specs.Files.{File, most_files, file_at, bytes_of, bytes_at, bytes_named}
use Rattle.mav_ftp.specs.Sessions.{Session, is_free, free_session, if_of, in_slot, session_of, unless_of, sessions_without, overwritten}
use Rattle.mav_ftp.specs.Listing.{is_root, entries_within}
use Rattle.mav_ftp.specs.Steps.{Storage, Served, refuses, accepts, with_session, publishes, ends, terminates, resets, lists_from, lists, opens_session, opens, reads_from, reads, creates_in, creates, write_error, with_bytes, writes_unless, writes, removes, serves, is_known, storage_step}
use Rattle.mav_ftp.specs.Ranges.{AreBytes, PayloadInRange, ContentInRange, FileInRange, SessionInRange, SlotInRange}
use Rattle.mav_ftp.proofs.Found.{inside_by}
use Rattle.mav_ftp.proofs.PayloadRanges.{by_test, FieldsInRange, four_bytes, ack_in_range, nak_in_range, entries_in_range, entries_short}

pub record StorageInRange (st : Storage) : Type 0 where
  pub few : length st.files ≤ most_files
  pub files : All FileInRange st.files
  pub four : length st.sessions ≡ 4
  pub sessions : All SlotInRange st.sessions

pub record ServedInRange (s : Served) : Type 0 where
  pub storage : StorageInRange s.storage
  pub reply : PayloadInRange s.reply

abbrev is_byte : ℕ → Type 0
is_byte b = b < 256

-- what is found is in range

pub item_in_range : {X : Type 0} (P : X → Type 0) (xs : List X) (k : ℕ) (x : X) → All P xs → slice_get xs k ≡ Some x → P x
item_in_range P xs k x h some =
    subst P (get_or_from_slice_get xs k x x some) (All-get_or P xs k x (slice_get_within xs k x some) h)

if_of_in_range : (from : Stream) (slot : Option Session) → SlotInRange slot → IfSome (if_of from slot) SessionInRange
if_of_in_range from None h = tt
if_of_in_range from (Some s) h = by_test (λ found. IfSome found SessionInRange) (same_stream s.stream from) (Some s) None (λ _. h) (λ _. tt)

session_in_range : (slots : List (Option Session)) (from : Stream) (k : ℕ) → All SlotInRange slots → IfSome (session_of slots from k) SessionInRange
session_in_range slots from k h =
    elim (slice_get slots k) as (λ slot. slice_get slots k ≡ slot → IfSome (in_slot from slot) SessionInRange) [
      | None ↦ λ e. tt
      | Some slot ↦ λ e. if_of_in_range from slot (item_in_range SlotInRange slots k slot h e)
    ] refl

file_in_range : (files : List File) (index : Option ℕ) → All FileInRange files → IfSome (bytes_at files index) ContentInRange
file_in_range files None h = tt
file_in_range files (Some i) h =
    elim (slice_get files i) as (λ found. slice_get files i ≡ found → IfSome (bytes_of found) ContentInRange) [
      | None ↦ λ e. tt
      | Some f ↦ λ e. (item_in_range FileInRange files i f h e).content
    ] refl

-- the number of a free session
free_in_range : (slots : List (Option Session)) → length slots ≡ 4 → IfSome (free_session slots) (λ k. k < 256)
free_in_range slots four =
    elim (free_session slots) as (λ at. free_session slots ≡ at → IfSome at (λ k. k < 256)) [
      | None ↦ λ e. tt
      | Some k ↦ λ e. omega (arith, four, inside_by is_free slots k None e)
    ] refl

-- the ways a request ends

slotted : (st : Storage) (number : ℕ) (slot : Option Session) → StorageInRange st → SlotInRange slot → StorageInRange (with_session st number slot)
slotted st number slot h is = record {
  few = h.few;
  files = h.files;
  four = length-set st.sessions number slot ∙ h.four;
  sessions = All-set SlotInRange st.sessions number slot is h.sessions;
}

refused : (st : Storage) (r : FtpFields) (error : ℕ) → StorageInRange st → FieldsInRange r → error < 256 → ServedInRange (refuses st r error)
refused st r error h fields small = record { storage = h; reply = nak_in_range r error fields small }

accepted : (st : Storage) (r : FtpFields) (bytes : List ℕ) → StorageInRange st → FieldsInRange r → length bytes ≤ most_data → AreBytes bytes → ServedInRange (accepts st r bytes)
accepted st r bytes h fields short all = record { storage = h; reply = ack_in_range r r.session bytes fields fields.session short all }

done : (st : Storage) (r : FtpFields) → StorageInRange st → FieldsInRange r → ServedInRange (accepts st r [])
done st r h fields = accepted st r [] h fields (omega arith) (All-nil is_byte)

-- TerminateSession

room_left : (n : ℕ) → not (nat_lt n most_files) ≡ false → n + 1 ≤ most_files
room_left n h = grind arith

published : (st : Storage) (r : FtpFields) (name bytes : List ℕ) → StorageInRange st → FieldsInRange r → is_file_name name ≡ true → ContentInRange bytes → ServedInRange (publishes st r name bytes)
published st r name bytes h fields named content =
    let f : File = record { name = name; bytes = bytes } in
    by_test ServedInRange (is_some (file_at st.files name)) _ _ (λ _. refused st r 8 h fields (omega arith)) (λ _.
    by_test ServedInRange (not (nat_lt (length st.files) most_files)) _ _ (λ _. refused st r 1 h fields (omega arith)) (λ room.
    done (record st { files = st.files ++ f ∷ [] }) r
    (record {
      few = omega (arith, room_left (length st.files) room, length-append st.files (f ∷ []));
      files = All-append FileInRange st.files (f ∷ []) h.files (All-cons FileInRange f [] (record { name = named; content = content }) (All-nil FileInRange));
      four = h.four;
      sessions = h.sessions;
    }) fields))

ended : (st : Storage) (r : FtpFields) (name : Option (List ℕ)) (bytes : List ℕ) → StorageInRange st → FieldsInRange r → IfSome name (λ n. is_file_name n ≡ true) → ContentInRange bytes
    → ServedInRange (ends st r name bytes)
ended st r None bytes h fields named content = done st r h fields
ended st r (Some name) bytes h fields named content = published st r name bytes h fields named content

terminated : (st : Storage) (r : FtpFields) (found : Option Session) → StorageInRange st → FieldsInRange r → IfSome found SessionInRange → ServedInRange (terminates st r found)
terminated st r None h fields is = refused st r 4 h fields (omega arith)
terminated st r (Some s) h fields is = ended (with_session st r.session None) r s.name s.bytes (slotted st r.session None h tt) fields is.name is.content

-- ResetSessions

left : (from : Stream) (slot : Option Session) → SlotInRange slot → SlotInRange (unless_of from slot)
left from None h = tt
left from (Some s) h = by_test SlotInRange (same_stream s.stream from) None (Some s) (λ _. tt) (λ _. h)

reset : (st : Storage) (from : Stream) (r : FtpFields) → StorageInRange st → FieldsInRange r → ServedInRange (resets st from r)
reset st from r h fields =
    done (record st { sessions = sessions_without st.sessions from }) r
    (record {
      few = h.few;
      files = h.files;
      four = length-map st.sessions (unless_of from) ∙ h.four;
      sessions =
          All-map SlotInRange (unless_of from) st.sessions
          (All-weaker SlotInRange (λ slot. SlotInRange (unless_of from slot)) (left from) st.sessions h.sessions);
    }) fields

-- ListDirectory

listed_from : (st : Storage) (r : FtpFields) (fs : List File) → StorageInRange st → FieldsInRange r → All FileInRange fs → ServedInRange (lists_from st r fs)
listed_from st r [] h fields all = refused st r 6 h fields (omega arith)
listed_from st r (f ∷ fs) h fields all =
    accepted st r (entries_within most_data (f ∷ fs)) h fields (entries_short most_data (f ∷ fs)) (entries_in_range most_data (f ∷ fs) all)

listed : (st : Storage) (r : FtpFields) (path : List ℕ) → StorageInRange st → FieldsInRange r → ServedInRange (lists st r path)
listed st r path h fields =
    by_test ServedInRange (is_root path) _ _ (λ _. listed_from st r (drop r.offset st.files) h fields (All-drop FileInRange r.offset st.files h.files))
    (λ _. refused st r 10 h fields (omega arith))

-- OpenFileRO and CreateFile

opened_session : (st : Storage) (r : FtpFields) (number : ℕ) (s : Session) (bytes : List ℕ) → StorageInRange st → FieldsInRange r → number < 256 → SessionInRange s
    → length bytes ≤ most_data → AreBytes bytes → ServedInRange (opens_session st r number s bytes)
opened_session st r number s bytes h fields small is short all = record {
  storage = slotted st number (Some s) h is;
  reply = ack_in_range r number bytes fields small short all;
}

opened : (st : Storage) (from : Stream) (r : FtpFields) (found : Option (List ℕ)) (slot : Option ℕ) → StorageInRange st → FieldsInRange r → IfSome found ContentInRange
    → IfSome slot (λ k. k < 256) → ServedInRange (opens st from r found slot)
opened st from r None slot h fields is small = refused st r 10 h fields (omega arith)
opened st from r (Some bytes) None h fields is small = refused st r 5 h fields (omega arith)
opened st from r (Some bytes) (Some number) h fields is small =
    opened_session st r number (record { stream = from; name = None; bytes = bytes }) (to_le_bytes w32 (length bytes)) h fields small (record { name = tt; content = is })
    (omega arith) (four_bytes (length bytes))

created_in : (st : Storage) (from : Stream) (r : FtpFields) (name : List ℕ) (slot : Option ℕ) → StorageInRange st → FieldsInRange r → is_file_name name ≡ true
    → IfSome slot (λ k. k < 256) → ServedInRange (creates_in st from r name slot)
created_in st from r name None h fields named small = refused st r 5 h fields (omega arith)
created_in st from r name (Some number) h fields named small =
    opened_session st r number (record { stream = from; name = Some name; bytes = [] }) [] h fields small
    (record { name = named; content = record { few = omega arith; bytes = All-nil is_byte } }) (omega arith) (All-nil is_byte)

accepted_name : (b : Bool) → not b ≡ false → b ≡ true
accepted_name true h = refl
accepted_name false h = absurd (cc)

created : (st : Storage) (from : Stream) (r : FtpFields) (name : List ℕ) → StorageInRange st → FieldsInRange r → ServedInRange (creates st from r name)
created st from r name h fields =
    by_test ServedInRange (not (is_file_name name)) _ _ (λ _. refused st r 1 h fields (omega arith)) (λ named.
    by_test ServedInRange (is_some (file_at st.files name)) _ _ (λ _. refused st r 8 h fields (omega arith)) (λ _.
    created_in st from r name (free_session st.sessions) h fields (accepted_name (is_file_name name) named) (free_in_range st.sessions h.four)))

-- ReadFile

piece_short : (size : ℕ) (bytes : List ℕ) → size ≤ most_data → length (take size bytes) ≤ most_data
piece_short size bytes small = omega (arith, small, length-take size bytes)

read_from : (st : Storage) (r : FtpFields) (name : Option (List ℕ)) (bytes : List ℕ) → StorageInRange st → FieldsInRange r → r.size ≤ most_data → ContentInRange bytes
    → ServedInRange (reads_from st r name bytes)
read_from st r (Some name) bytes h fields small content = refused st r 4 h fields (omega arith)
read_from st r None bytes h fields small content =
    by_test ServedInRange (nat_lt r.offset (length bytes)) _ _
    (λ _. accepted st r (take r.size (drop r.offset bytes)) h fields (piece_short r.size (drop r.offset bytes) small)
    (All-take is_byte r.size (drop r.offset bytes) (All-drop is_byte r.offset bytes content.bytes))) (λ _. refused st r 6 h fields (omega arith))

read : (st : Storage) (r : FtpFields) (found : Option Session) → StorageInRange st → FieldsInRange r → r.size ≤ most_data → IfSome found SessionInRange → ServedInRange (reads st r found)
read st r None h fields small is = refused st r 4 h fields (omega arith)
read st r (Some s) h fields small is = read_from st r s.name s.bytes h fields small is.content

-- WriteFile

both_below : (len offset end : ℕ) → (nat_lt len offset || nat_lt most_file end) ≡ false → (offset ≤ len) × (end ≤ most_file)
both_below len offset end h = grind arith

within_file : (r : FtpFields) (bytes : List ℕ) (s : Session) → write_error r bytes s ≡ None → (r.offset ≤ length s.bytes) × (r.offset + length bytes ≤ most_file)
within_file r bytes s right =
    by_test (λ (e : Option ℕ). e ≡ None → (r.offset ≤ length s.bytes) × (r.offset + length bytes ≤ most_file)) (not (is_some s.name)) _ _ (λ _ no. absurd (cc)) (λ _.
    by_test (λ (e : Option ℕ). e ≡ None → (r.offset ≤ length s.bytes) × (r.offset + length bytes ≤ most_file))
    (nat_lt (length s.bytes) r.offset || nat_lt most_file (r.offset + length bytes)) _ _ (λ _ no. absurd (cc)) (λ below _.
    both_below (length s.bytes) r.offset (r.offset + length bytes) below)) right

small_error : (r : FtpFields) (bytes : List ℕ) (s : Session) → IfSome (write_error r bytes s) (λ e. e < 256)
small_error r bytes s =
    by_test (λ e. IfSome e (λ n. n < 256)) (not (is_some s.name)) _ _ (λ _. omega arith) (λ _.
    by_test (λ e. IfSome e (λ n. n < 256)) (nat_lt (length s.bytes) r.offset || nat_lt most_file (r.offset + length bytes)) _ _ (λ _. omega arith) (λ _. tt))

overwritten_in_range : (held : List ℕ) (offset : ℕ) (bytes : List ℕ) → ContentInRange held → AreBytes bytes → offset ≤ length held → offset + length bytes ≤ most_file
    → ContentInRange (overwritten held offset bytes)
overwritten_in_range held offset bytes content all inside fits =
    let rest = drop (offset + length bytes) held in
    record {
      few = omega (arith, content.few, inside, fits, length-append (take offset held) (bytes ++ rest), length-append bytes rest, length-take offset held, length-drop (offset + length bytes) held);
      bytes =
          All-append is_byte (take offset held) (bytes ++ rest) (All-take is_byte offset held content.bytes)
          (All-append is_byte bytes rest all (All-drop is_byte (offset + length bytes) held content.bytes));
    }

written_unless : (st : Storage) (r : FtpFields) (bytes : List ℕ) (s : Session) (error : Option ℕ) → write_error r bytes s ≡ error → StorageInRange st → FieldsInRange r
    → AreBytes bytes → SessionInRange s → ServedInRange (writes_unless st r bytes s error)
written_unless st r bytes s (Some error) is h fields all session = refused st r error h fields (subst (λ e. IfSome e (λ n. n < 256)) is (small_error r bytes s))
written_unless st r bytes s None is h fields all session =
    let within = within_file r bytes s is in
    let t = with_bytes s (overwritten s.bytes r.offset bytes) in
    done (with_session st r.session (Some t)) r
    (slotted st r.session (Some t) h
    (record { name = session.name; content = overwritten_in_range s.bytes r.offset bytes session.content all within.0 within.1 })) fields

written : (st : Storage) (r : FtpFields) (bytes : List ℕ) (found : Option Session) → StorageInRange st → FieldsInRange r → AreBytes bytes → IfSome found SessionInRange
    → ServedInRange (writes st r bytes found)
written st r bytes None h fields all is = refused st r 4 h fields (omega arith)
written st r bytes (Some s) h fields all is = written_unless st r bytes s (write_error r bytes s) refl h fields all is

-- RemoveFile

removed : (st : Storage) (r : FtpFields) (index : Option ℕ) → StorageInRange st → FieldsInRange r → ServedInRange (removes st r index)
removed st r None h fields = refused st r 10 h fields (omega arith)
removed st r (Some i) h fields =
    done (record st { files = remove st.files i }) r
    (record {
      few = omega (arith, h.few, length-append (take i st.files) (drop (suc i) st.files), length-take i st.files, length-drop (suc i) st.files);
      files =
          All-append FileInRange (take i st.files) (drop (suc i) st.files) (All-take FileInRange i st.files h.files) (All-drop FileInRange (suc i) st.files h.files);
      four = h.four;
      sessions = h.sessions;
    }) fields

-- any request

served : (st : Storage) (from : Stream) (r : FtpFields) (bytes : List ℕ) → StorageInRange st → FieldsInRange r → r.size ≤ most_data → AreBytes bytes → ServedInRange (serves st from r bytes)
served st from r bytes h fields small all =
    let found = session_in_range st.sessions from r.session h.sessions in
    by_test ServedInRange (r.opcode == terminate_session) _ _ (λ _. terminated st r (session_of st.sessions from r.session) h fields found) (λ _.
    by_test ServedInRange (r.opcode == reset_sessions) _ _ (λ _. reset st from r h fields) (λ _.
    by_test ServedInRange (r.opcode == list_directory) _ _ (λ _. listed st r bytes h fields) (λ _.
    by_test ServedInRange (r.opcode == open_file_ro) _ _
    (λ _. opened st from r (bytes_named st.files bytes) (free_session st.sessions) h fields (file_in_range st.files (file_at st.files bytes) h.files)
    (free_in_range st.sessions h.four)) (λ _.
    by_test ServedInRange (r.opcode == read_file) _ _ (λ _. read st r (session_of st.sessions from r.session) h fields small found) (λ _.
    by_test ServedInRange (r.opcode == create_file) _ _ (λ _. created st from r bytes h fields) (λ _.
    by_test ServedInRange (r.opcode == write_file) _ _ (λ _. written st r bytes (session_of st.sessions from r.session) h fields all found) (λ _.
    removed st r (file_at st.files bytes) h fields)))))))

small_size : (size : ℕ) → nat_lt most_data size ≡ false → size ≤ most_data
small_size size h = grind arith

pub stepped : (st : Storage) (from : Stream) (r : FtpFields) (bytes : List ℕ) → StorageInRange st → FieldsInRange r → AreBytes bytes → ServedInRange (storage_step st from r bytes)
stepped st from r bytes h fields all =
    by_test ServedInRange (not (is_known r.opcode)) _ _ (λ _. refused st r 7 h fields (omega arith)) (λ _.
    by_test ServedInRange (nat_lt most_data r.size) _ _ (λ _. refused st r 3 h fields (omega arith)) (λ small.
    served st from r bytes h fields (small_size r.size small) all))
