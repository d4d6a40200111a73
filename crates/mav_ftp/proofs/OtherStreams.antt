-- A stream's session is left alone by the requests of other streams.
use Rattle.std.proofs.Common.{◌≡◌, ◌≢◌, ◌<◌, ℕ, ◌==◌, nat_lt, not, Bool, true, false, if◌then◌else◌, List, [], ◌∷◌, length, drop, Option, Some, None, refl, sym, ap, ◌∙◌, get_or, arith, subst}
use Rattle.std.specs.Prelude.{slice_get, is_some}
use Rattle.std.specs.Option.{option_map}
use Rattle.std.proofs.Math.ListN.{set}
use Rattle.std.proofs.lemmas.List.{get_or-set_other, length-set}
use Rattle.std.proofs.lemmas.List.Quantifiers.{position-Some}
use Rattle.std.proofs.lemmas.Option.{slice_get_within, slice_get-get_or, get_or_from_slice_get, slice_get-map}
use Rattle.mav_names.specs.declared.names.Stream.{Stream}
use Rattle.mav_names.specs.Addresses.{same_stream}
use Rattle.mav_ftp.specs.declared.payload.FtpFields.{FtpFields}
use Rattle.mav_ftp.specs.Payload.{fields_of, sized_data, most_data, is_file_name, terminate_session, reset_sessions, list_directory, open_file_ro, read_file, create_file, write_file}
use Rattle.mav_ftp.specs.Files.{File, most_files, file_at, bytes_named}
use Rattle.mav_ftp.specs.Sessions.{Session, is_free, free_session, if_of, in_slot, session_of, unless_of, sessions_without}
use Rattle.mav_ftp.specs.Listing.{is_root}
use Rattle.mav_ftp.specs.Exchanges.{kept_reply, is_full_for}
use Rattle.mav_ftp.specs.Steps.{Storage, Served, with_session, publishes, ends, terminates, lists_from, opens, reads_from, reads, creates_in, creates, write_error, writes_unless, writes, removes, is_known, storage_step}
use Rattle.mav_ftp.specs.Server.{FilesState, storage_of, files_after, new_state, state_unless}
use Rattle.mav_ftp.proofs.PayloadRanges.{by_test}

-- what a slot holds

some_is : {A : Type 0} {x y : A} → Some x ≡ Some y → x ≡ y
some_is e = cc

own_is : (from : Stream) (t s : Session) → if_of from (Some t) ≡ Some s → (t ≡ s) × (same_stream s.stream from ≡ true)
own_is from t s found =
    elim (same_stream t.stream from) as (λ b. same_stream t.stream from ≡ b → (if b then Some t else None) ≡ Some s → (t ≡ s) × (same_stream s.stream from ≡ true)) [
      | true ↦ λ same is. (some_is is, subst (λ (x : Session). same_stream x.stream from ≡ true) (some_is is) same)
      | false ↦ λ same no. absurd (cc)
    ] refl found

in_its_slot : (slots : List (Option Session)) (from : Stream) (k : ℕ) (s : Session) → session_of slots from k ≡ Some s
    → (slice_get slots k ≡ Some (Some s)) × (same_stream s.stream from ≡ true)
in_its_slot slots from k s found = go (slice_get slots k) refl found where
  go : (slot : Option (Option Session)) → slice_get slots k ≡ slot → in_slot from slot ≡ Some s → (slice_get slots k ≡ Some (Some s)) × (same_stream s.stream from ≡ true)
  go None e f = absurd (cc)
  go (Some None) e f = absurd (cc)
  go (Some (Some t)) e f = (e ∙ ap (λ (x : Session). Some (Some x)) (own_is from t s f).0, (own_is from t s f).1)

found_in : (slots : List (Option Session)) (from : Stream) (k : ℕ) (s : Session) → slice_get slots k ≡ Some (Some s) → same_stream s.stream from ≡ true → session_of slots from k ≡ Some s
found_in slots from k s e same = ap (in_slot from) e ∙ ap (λ b. if b then Some s else None) same

-- a slot of another number changes

both_same : (a b c : Stream) → same_stream a b ≡ true → same_stream a c ≡ true → same_stream b c ≡ true
both_same a b c e f = grind arith

never : {A : Type 0} → true ≡ false → A
never e = absurd (cc)

set_apart : (slots : List (Option Session)) (from : Stream) (k n : ℕ) (s : Session) (slot : Option Session) → session_of slots from k ≡ Some s → k ≢ n
    → session_of (set slots n slot) from k ≡ Some s
set_apart slots from k n s slot found apart =
    let held = in_its_slot slots from k s found in
    let inside : k < length slots = slice_get_within slots k (Some s) held.0 in
    let same : slice_get (set slots n slot) k ≡ Some (Some s) =
    slice_get-get_or (set slots n slot) k slot (rw (length-set slots n slot) inside)
    ∙ (ap (λ x. Some x) (get_or-set_other slots n k slot slot apart ∙ get_or_from_slice_get slots k (Some s) slot held.0)) in
    found_in (set slots n slot) from k s same held.1

-- that of another stream, and a free one, have other numbers
other_number : (slots : List (Option Session)) (from other : Stream) (k n : ℕ) (s t : Session) → session_of slots from k ≡ Some s → session_of slots other n ≡ Some t
    → same_stream from other ≡ false → k ≢ n
other_number slots from other k n s t found theirs apart e =
    let mine = in_its_slot slots from k s found in
    let their = in_its_slot slots other n t theirs in
    let same : t ≡ s = some_is (some_is (sym their.0 ∙ (ap (slice_get slots) (sym e) ∙ mine.0))) in
    never (sym (both_same s.stream from other mine.1 (subst (λ (x : Session). same_stream x.stream other ≡ true) same their.1)) ∙ apart)

free_number : (slots : List (Option Session)) (from : Stream) (k n : ℕ) (s : Session) → session_of slots from k ≡ Some s → free_session slots ≡ Some n → k ≢ n
free_number slots from k n s found free e =
    let mine = in_its_slot slots from k s found in
    let empty = (position-Some is_free slots n None free).1 in
    let here : get_or slots n None ≡ Some s = ap (λ i. get_or slots i None) (sym e) ∙ get_or_from_slice_get slots k (Some s) None mine.0 in
    never (sym empty ∙ ap is_free here)

-- each opcode

abbrev Holds : Stream → ℕ → Session → Served → Type 0
Holds from k s x = session_of x.storage.sessions from k ≡ Some s

published : (st : Storage) (r : FtpFields) (name bytes : List ℕ) (from : Stream) (k : ℕ) (s : Session) → session_of st.sessions from k ≡ Some s → Holds from k s (publishes st r name bytes)
published st r name bytes from k s h =
    by_test (Holds from k s) (is_some (file_at st.files name)) _ _ (λ _. h) (λ _. by_test (Holds from k s) (not (nat_lt (length st.files) most_files)) _ _ (λ _. h) (λ _. h))

ended : (st : Storage) (r : FtpFields) (name : Option (List ℕ)) (bytes : List ℕ) (from : Stream) (k : ℕ) (s : Session) → session_of st.sessions from k ≡ Some s
    → Holds from k s (ends st r name bytes)
ended st r None bytes from k s h = h
ended st r (Some name) bytes from k s h = published st r name bytes from k s h

-- a session, another stream, and a storage that holds the session
record Apart (st : Storage) (from other : Stream) (k : ℕ) (s : Session) : Type 0 where
  found : session_of st.sessions from k ≡ Some s
  apart : same_stream from other ≡ false

terminated : (st : Storage) (r : FtpFields) (from other : Stream) (k : ℕ) (s : Session) (theirs : Option Session) → Apart st from other k s
    → session_of st.sessions other r.session ≡ theirs → Holds from k s (terminates st r theirs)
terminated st r from other k s None h is = h.found
terminated st r from other k s (Some t) h is =
    ended (with_session st r.session None) r t.name t.bytes from k s
    (set_apart st.sessions from k r.session s None h.found (other_number st.sessions from other k r.session s t h.found is h.apart))

left : (s : Session) (from other : Stream) → same_stream s.stream from ≡ true → same_stream from other ≡ false → unless_of other (Some s) ≡ Some s
left s from other own apart = ap (λ b. if b then None else Some s) (theirs (same_stream s.stream other) refl) where
  theirs : (b : Bool) → same_stream s.stream other ≡ b → same_stream s.stream other ≡ false
  theirs true e = never (sym (both_same s.stream from other own e) ∙ apart)
  theirs false e = e

reset : (st : Storage) (from other : Stream) (k : ℕ) (s : Session) → Apart st from other k s → session_of (sessions_without st.sessions other) from k ≡ Some s
reset st from other k s h =
    let mine = in_its_slot st.sessions from k s h.found in
    found_in (sessions_without st.sessions other) from k s
    (slice_get-map (unless_of other) st.sessions k ∙ (ap (option_map (unless_of other)) mine.0 ∙ ap (λ x. Some x) (left s from other mine.1 h.apart))) mine.1

listed : (st : Storage) (r : FtpFields) (fs : List File) (from : Stream) (k : ℕ) (s : Session) → session_of st.sessions from k ≡ Some s → Holds from k s (lists_from st r fs)
listed st r [] from k s h = h
listed st r (f ∷ fs) from k s h = h

opened : (st : Storage) (r : FtpFields) (from other : Stream) (k : ℕ) (s : Session) (found : Option (List ℕ)) (slot : Option ℕ) → session_of st.sessions from k ≡ Some s
    → free_session st.sessions ≡ slot → Holds from k s (opens st other r found slot)
opened st r from other k s None slot h free = h
opened st r from other k s (Some bytes) None h free = h
opened st r from other k s (Some bytes) (Some n) h free = set_apart st.sessions from k n s _ h (free_number st.sessions from k n s h free)

read_from : (st : Storage) (r : FtpFields) (name : Option (List ℕ)) (bytes : List ℕ) (from : Stream) (k : ℕ) (s : Session) → session_of st.sessions from k ≡ Some s
    → Holds from k s (reads_from st r name bytes)
read_from st r (Some name) bytes from k s h = h
read_from st r None bytes from k s h = by_test (Holds from k s) (nat_lt r.offset (length bytes)) _ _ (λ _. h) (λ _. h)

read : (st : Storage) (r : FtpFields) (theirs : Option Session) (from : Stream) (k : ℕ) (s : Session) → session_of st.sessions from k ≡ Some s → Holds from k s (reads st r theirs)
read st r None from k s h = h
read st r (Some t) from k s h = read_from st r t.name t.bytes from k s h

created_in : (st : Storage) (r : FtpFields) (name : List ℕ) (from other : Stream) (k : ℕ) (s : Session) (slot : Option ℕ) → session_of st.sessions from k ≡ Some s
    → free_session st.sessions ≡ slot → Holds from k s (creates_in st other r name slot)
created_in st r name from other k s None h free = h
created_in st r name from other k s (Some n) h free = set_apart st.sessions from k n s _ h (free_number st.sessions from k n s h free)

created : (st : Storage) (r : FtpFields) (name : List ℕ) (from other : Stream) (k : ℕ) (s : Session) → session_of st.sessions from k ≡ Some s → Holds from k s (creates st other r name)
created st r name from other k s h =
    by_test (Holds from k s) (not (is_file_name name)) _ _ (λ _. h) (λ _.
    by_test (Holds from k s) (is_some (file_at st.files name)) _ _ (λ _. h) (λ _. created_in st r name from other k s (free_session st.sessions) h refl))

written_unless : (st : Storage) (r : FtpFields) (bytes : List ℕ) (from other : Stream) (k : ℕ) (s t : Session) (error : Option ℕ) → Apart st from other k s
    → session_of st.sessions other r.session ≡ Some t → Holds from k s (writes_unless st r bytes t error)
written_unless st r bytes from other k s t (Some error) h is = h.found
written_unless st r bytes from other k s t None h is =
    set_apart st.sessions from k r.session s _ h.found (other_number st.sessions from other k r.session s t h.found is h.apart)

written : (st : Storage) (r : FtpFields) (bytes : List ℕ) (from other : Stream) (k : ℕ) (s : Session) (theirs : Option Session) → Apart st from other k s
    → session_of st.sessions other r.session ≡ theirs → Holds from k s (writes st r bytes theirs)
written st r bytes from other k s None h is = h.found
written st r bytes from other k s (Some t) h is = written_unless st r bytes from other k s t (write_error r bytes t) h is

removed : (st : Storage) (r : FtpFields) (index : Option ℕ) (from : Stream) (k : ℕ) (s : Session) → session_of st.sessions from k ≡ Some s → Holds from k s (removes st r index)
removed st r None from k s h = h
removed st r (Some i) from k s h = h

-- any request

stepped : (st : Storage) (r : FtpFields) (bytes : List ℕ) (from other : Stream) (k : ℕ) (s : Session) → Apart st from other k s → Holds from k s (storage_step st other r bytes)
stepped st r bytes from other k s h =
    let P = Holds from k s in
    let free = free_session st.sessions in
    let theirs = session_of st.sessions other r.session in
    by_test P (not (is_known r.opcode)) _ _ (λ _. h.found) (λ _.
    by_test P (nat_lt most_data r.size) _ _ (λ _. h.found) (λ _.
    by_test P (r.opcode == terminate_session) _ _ (λ _. terminated st r from other k s theirs h refl) (λ _.
    by_test P (r.opcode == reset_sessions) _ _ (λ _. reset st from other k s h) (λ _.
    by_test P (r.opcode == list_directory) _ _
    (λ _. by_test P (is_root bytes) _ _ (λ _. listed st r (drop r.offset st.files) from k s h.found) (λ _. h.found)) (λ _.
    by_test P (r.opcode == open_file_ro) _ _ (λ _. opened st r from other k s (bytes_named st.files bytes) free h.found refl) (λ _.
    by_test P (r.opcode == read_file) _ _ (λ _. read st r theirs from k s h.found) (λ _.
    by_test P (r.opcode == create_file) _ _ (λ _. created st r bytes from other k s h.found) (λ _.
    by_test P (r.opcode == write_file) _ _ (λ _. written st r bytes from other k s theirs h refl) (λ _.
    removed st r (file_at st.files bytes) from k s h.found)))))))))

unless : (st new : FilesState) (kept : Option (List ℕ)) (from : Stream) (k : ℕ) (s : Session) → session_of st.sessions from k ≡ Some s → session_of new.sessions from k ≡ Some s
    → session_of (state_unless st new kept).sessions from k ≡ Some s
unless st new None from k s h n = n
unless st new (Some reply) from k s h n = h

pub left_alone : (st : FilesState) (from other : Stream) → same_stream from other ≡ false → (payload : List ℕ) (k : ℕ) (s : Session) → session_of st.sessions from k ≡ Some s
    → session_of (files_after st other payload).sessions from k ≡ Some s
left_alone st from other apart payload k s h =
    unless st (new_state st other payload) (kept_reply st.exchanges other payload) from k s h
    (by_test (λ (x : FilesState). session_of x.sessions from k ≡ Some s) (is_full_for st.exchanges other) _ _ (λ _. h)
    (λ _. stepped (storage_of st) (fields_of payload) (sized_data payload) from other k s (record { found = h; apart = apart })))
