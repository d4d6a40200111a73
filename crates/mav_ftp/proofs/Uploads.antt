-- A file that is written piece by piece.
use Rattle.std.proofs.Common.{◌≡◌, ◌≢◌, ◌⊎◌, inl, inr, ◌<◌, ◌≤◌, ◌^◌, ℕ, ◌+◌, true, false, if◌then◌else◌, List, [], ◌∷◌, ◌++◌, length, Option, Some, None, refl, sym, ap, ◌∙◌, append-nil, append_assoc, arith, All, subst}
use Rattle.std.specs.Prelude.{slice_get, slice_index}
use Rattle.std.specs.Str.{bytes_eq}
use Rattle.std.specs.Cmp.Lexicographic.{bytes_decides}
use Rattle.std.proofs.Math.ListN.{set}
use Rattle.std.proofs.lemmas.List.{length-append}
use Rattle.std.proofs.lemmas.Option.{slice_get_within, slice_get-get_or}
use Rattle.std.proofs.lemmas.List.Elements.{All-head, All-tail}
use Rattle.mav_names.specs.declared.names.Stream.{Stream}
use Rattle.mav_names.specs.Addresses.{same_stream}
use Rattle.mav_ftp.specs.declared.payload.FtpFields.{FtpFields}
use Rattle.mav_ftp.specs.Payload.{most_data, most_file, fields_of, sized_data, is_file_name}
use Rattle.mav_ftp.specs.Files.{File, is_named, file_at, bytes_of, bytes_at, bytes_named, most_files}
use Rattle.mav_ftp.specs.Sessions.{Session, is_free, session_of, in_slot}
use Rattle.mav_ftp.specs.Exchanges.{kept_reply, is_full_for}
use Rattle.mav_ftp.specs.Steps.{Storage, Served, with_session, with_bytes, storage_step}
use Rattle.mav_ftp.specs.Server.{FilesState, storage_of, served, files_after, kept_after, new_state, state_unless, file_named}
use Rattle.mav_ftp.specs.Laws.{Piece, create_request, write_request, end_request, after_pieces, all_bytes, CanCreate, AreWritable, written}
use Rattle.mav_ftp.proofs.Found.{found_last, last_is, set_is, inside_by}
use Rattle.mav_ftp.proofs.KeptExchanges.{IsLast, same_self, kept_last, fresh_after, known_after}
use Rattle.mav_ftp.proofs.ReadBack.{data_back, offset_back}
use Rattle.mav_ftp.proofs.StorageSteps.{created, appended, ended}

-- files by their names

same_bytes : (bs : List ℕ) → bytes_eq bs bs ≡ true
same_bytes [] = refl
same_bytes (b ∷ bs) = grind (arith, same_bytes bs)

-- no file has the name
unnamed : (files : List File) (name : List ℕ) → bytes_named files name ≡ None → file_at files name ≡ None
unnamed files name none =
    elim (file_at files name) as (λ at. file_at files name ≡ at → bytes_at files at ≡ None → at ≡ None) [
      | None ↦ λ e b. refl
      | Some i ↦ λ e b.
          let d : File = record { name = name; bytes = [] } in
          let inside = inside_by (is_named name) files i d e in
          absurd (let no = sym (ap bytes_of (slice_get-get_or files i d inside)) ∙ b in cc)
    ] refl none

named_last : (files : List File) (name bytes : List ℕ) → file_at files name ≡ None → bytes_named (files ++ record { name = name; bytes = bytes } ∷ []) name ≡ Some bytes
named_last files name bytes none =
    let f : File = record { name = name; bytes = bytes } in
    ap (bytes_at (files ++ f ∷ [])) (found_last (is_named name) files f none (same_bytes name)) ∙ ap bytes_of (last_is files f)

-- the session after it is opened and after bytes are written into it
opened_session : (slots : List (Option Session)) (from : Stream) (k : ℕ) (s : Session) → k < length slots → s.stream ≡ from → session_of (set slots k (Some s)) from k ≡ Some s
opened_session slots from k s inside own =
    ap (in_slot from) (set_is slots k (Some s) inside) ∙ ap (λ t. if t then Some s else None) (ap (λ x. same_stream x from) own ∙ same_self from)

session_within : (slots : List (Option Session)) (from : Stream) (k : ℕ) (s : Session) → session_of slots from k ≡ Some s → k < length slots
session_within slots from k s found =
    elim (slice_get slots k) as (λ slot. slice_get slots k ≡ slot → in_slot from slot ≡ Some s → k < length slots) [
      | None ↦ λ e f. absurd (cc)
      | Some x ↦ λ e f. slice_get_within slots k x e
    ] refl found

-- a request that is new

kept_new : (st : FilesState) (from : Stream) (payload : List ℕ) → kept_reply st.exchanges from payload ≡ None → is_full_for st.exchanges from ≡ false
    → files_after st from payload ≡ kept_after st from payload (served st from payload)
kept_new st from payload none room =
    ap (state_unless st (new_state st from payload)) none ∙ ap (λ t. if t then st else kept_after st from payload (served st from payload)) room

-- requests that differ in their opcode or their offset aren't the same
other_opcode : (a b : List ℕ) → slice_index a 3 ≢ slice_index b 3 → bytes_eq a b ≡ false
other_opcode a b apart =
    elim (bytes_eq a b) as (λ t. bytes_eq a b ≡ t → t ≡ false) [
      | true ↦ λ e. absurd (apart (ap (λ p. slice_index p 3) ((bytes_decides a b).0 e)))
      | false ↦ λ e. refl
    ] refl

other_offset : (a b : List ℕ) → (fields_of a).offset ≢ (fields_of b).offset → bytes_eq a b ≡ false
other_offset a b apart =
    elim (bytes_eq a b) as (λ t. bytes_eq a b ≡ t → t ≡ false) [
      | true ↦ λ e. absurd (apart (ap (λ p. (fields_of p).offset) ((bytes_decides a b).0 e)))
      | false ↦ λ e. refl
    ] refl

-- while a file is written

record IsWriting (st : FilesState) (from : Stream) (k : ℕ) (name held last : List ℕ) : Type 0 where
  session : session_of st.sessions from k ≡ Some (record { stream = from; name = Some name; bytes = held })
  new : file_at st.files name ≡ None
  room : length st.files < most_files
  kept : IsLast st.exchanges from last

-- by a request that leaves the session with these bytes
still_writing : (st : FilesState) (from : Stream) (k : ℕ) (name held payload : List ℕ) (s : Served)
    → s.storage ≡ with_session (storage_of st) k (Some (record { stream = from; name = Some name; bytes = held }))
    → k < length st.sessions → file_at st.files name ≡ None → length st.files < most_files → IsWriting (kept_after st from payload s) from k name held payload
still_writing st from k name held payload s is inside new room = record {
  session =
      ap (λ (x : Storage). session_of x.sessions from k) is
      ∙ opened_session st.sessions from k (record { stream = from; name = Some name; bytes = held }) inside refl;
  new = ap (λ (x : Storage). file_at x.files name) is ∙ new;
  room = subst (λ (x : Storage). length x.files < most_files) (sym is) room;
  kept = kept_last st.exchanges (record { stream = from; request = payload; reply = s.reply });
}

short_name : (name : List ℕ) → is_file_name name ≡ true → length name ≤ most_data
short_name name named = grind arith

begun : (st : FilesState) (from : Stream) (k seq : ℕ) (name : List ℕ) → CanCreate st from k seq name
    → IsWriting (files_after st from (create_request seq name)) from k name [] (create_request seq name)
begun st from k seq name h =
    let p = create_request seq name in
    let f : FtpFields = record { seq = seq; session = 0; opcode = 6; size = length name; req_opcode = 0; offset = 0 } in
    let none : file_at st.files name ≡ None = unnamed st.files name h.new in
    let inside : k < length st.sessions = inside_by is_free st.sessions k None h.free in
    let stored : (served st from p).storage ≡ with_session (storage_of st) k (Some (record { stream = from; name = Some name; bytes = [] })) =
    ap (λ b. (storage_step (storage_of st) from (fields_of p) b).storage) (data_back f name refl)
    ∙ created (storage_of st) from (fields_of p).seq (length name) k name (short_name name h.named) h.named none h.free in
    subst (λ x. IsWriting x from k name [] p) (sym (kept_new st from p h.fresh h.known)) (still_writing st from k name [] p (served st from p) stored inside none h.room)

-- one more piece
continued : (st : FilesState) (from : Stream) (k offset : ℕ) (name held last : List ℕ) (p : Piece) → IsWriting st from k name held last → offset ≡ length held
    → bytes_eq last (write_request k offset p) ≡ false → length p.bytes ≤ most_data → length held + length p.bytes ≤ most_file
    → IsWriting (files_after st from (write_request k offset p)) from k name (held ++ p.bytes) (write_request k offset p)
continued st from k offset name held last p h at other short fits =
    let payload = write_request k offset p in
    let f : FtpFields = record { seq = p.seq; session = k; opcode = 7; size = length p.bytes; req_opcode = 0; offset = offset } in
    let s : Session = record { stream = from; name = Some name; bytes = held } in
    let small : offset < 2 ^ 32 = omega (arith, at, fits) in
    let stored : (served st from payload).storage ≡ with_session (storage_of st) k (Some (with_bytes s (held ++ p.bytes))) =
    ap (λ b. (storage_step (storage_of st) from (fields_of payload) b).storage) (data_back f p.bytes refl)
    ∙ appended (storage_of st) from (fields_of payload).seq k (length p.bytes) (fields_of payload).offset p.bytes name s short h.session refl
    (offset_back f p.bytes small ∙ at) fits in
    subst (λ x. IsWriting x from k name (held ++ p.bytes) payload)
    (sym (kept_new st from payload (fresh_after st.exchanges from last payload h.kept other) (known_after st.exchanges from last h.kept)))
    (still_writing st from k name (held ++ p.bytes) payload (served st from payload) stored (session_within st.sessions from k s h.session) h.new h.room)

-- what the last request of an upload is before the next piece
abbrev IsEarlier : List ℕ → ℕ → Type 0
IsEarlier last offset = (slice_index last 3 ≡ 6) ⊎ ((slice_index last 3 ≡ 7) × ((fields_of last).offset < offset))

new_piece : (last : List ℕ) (k offset : ℕ) (p : Piece) → offset < 2 ^ 32 → IsEarlier last offset → bytes_eq last (write_request k offset p) ≡ false
new_piece last k offset p small (inl six) = other_opcode last (write_request k offset p) (λ e. absurd (let no : 6 ≡ 7 = sym six ∙ e in omega (arith, no)))
new_piece last k offset p small (inr seven) =
    let f : FtpFields = record { seq = p.seq; session = k; opcode = 7; size = length p.bytes; req_opcode = 0; offset = offset } in
    other_offset last (write_request k offset p) (λ e. absurd (let same : (fields_of last).offset ≡ offset = e ∙ offset_back f p.bytes small in omega (arith, same, seven.1)))

new_end : (last : List ℕ) (k offset seq : ℕ) → IsEarlier last offset → bytes_eq last (end_request seq k) ≡ false
new_end last k offset seq (inl six) = other_opcode last (end_request seq k) (λ e. absurd (let no : 6 ≡ 1 = sym six ∙ e in omega (arith, no)))
new_end last k offset seq (inr seven) = other_opcode last (end_request seq k) (λ e. absurd (let no : 7 ≡ 1 = sym seven.0 ∙ e in omega (arith, no)))

abbrev is_piece : Piece → Type 0
is_piece p = (0 < length p.bytes) × (length p.bytes ≤ most_data)

record IsWritten (st : FilesState) (from : Stream) (k : ℕ) (name held : List ℕ) : Type 0 where
  last : List ℕ
  offset : ℕ
  writing : IsWriting st from k name held last
  earlier : IsEarlier last offset

-- all pieces, one after another
all_written : (st : FilesState) (from : Stream) (k offset : ℕ) (name held last : List ℕ) (pieces : List Piece) → IsWriting st from k name held last
    → offset ≡ length held → IsEarlier last offset → All (λ p. (0 < length p.bytes) × (length p.bytes ≤ most_data)) pieces
    → length held + length (all_bytes pieces) ≤ most_file → IsWritten (after_pieces st from k offset pieces) from k name (held ++ all_bytes pieces)
all_written st from k offset name held last [] h at earlier each fits =
    subst (λ b. IsWritten st from k name b) (sym (append-nil held)) (record { last = last; offset = offset; writing = h; earlier = earlier })
all_written st from k offset name held last (p ∷ ps) h at earlier each fits =
    let one : (0 < length p.bytes) × (length p.bytes ≤ most_data) = All-head is_piece p ps each in
    let whole : length (p.bytes ++ all_bytes ps) ≡ length p.bytes + length (all_bytes ps) = length-append p.bytes (all_bytes ps) in
    let longer : length (held ++ p.bytes) ≡ length held + length p.bytes = length-append held p.bytes in
    let small : offset < 2 ^ 32 = omega (arith, at, fits, whole) in
    let f : FtpFields = record { seq = p.seq; session = k; opcode = 7; size = length p.bytes; req_opcode = 0; offset = offset } in
    let next = continued st from k offset name held last p h at (new_piece last k offset p small earlier) one.1 (omega (arith, fits, whole)) in
    let read : (fields_of (write_request k offset p)).offset ≡ offset = offset_back f p.bytes small in
    subst (λ b. IsWritten (after_pieces (files_after st from (write_request k offset p)) from k (offset + length p.bytes) ps) from k name b)
    (append_assoc held p.bytes (all_bytes ps))
    (all_written (files_after st from (write_request k offset p)) from k (offset + length p.bytes) name (held ++ p.bytes) (write_request k offset p) ps next
    (omega (arith, at, longer)) (inr (refl, omega (arith, read, one.0))) (All-tail is_piece p ps each) (omega (arith, fits, whole, longer)))

-- the session ends
seen : (st : FilesState) (from : Stream) (k seq : ℕ) (name held : List ℕ) → IsWritten st from k name held → file_named (files_after st from (end_request seq k)) name ≡ Some held
seen st from k seq name held h =
    let w = h.writing in
    let p = end_request seq k in
    let fresh = fresh_after st.exchanges from h.last p w.kept (new_end h.last k h.offset seq h.earlier) in
    let is = ended (storage_of st) from (fields_of p).seq k (sized_data p) name (record { stream = from; name = Some name; bytes = held }) w.session refl w.new w.room in
    ap (λ (x : FilesState). file_named x name) (kept_new st from p fresh (known_after st.exchanges from h.last w.kept))
    ∙ (ap (λ files. bytes_named files name) is ∙ named_last st.files name held w.new)

-- the law

run : (st : FilesState) (from : Stream) (k seq : ℕ) (name : List ℕ) (pieces : List Piece) → CanCreate st from k seq name → AreWritable pieces
    → IsWritten (written st from k seq name pieces) from k name (all_bytes pieces)
run st from k seq name pieces h fits =
    all_written (files_after st from (create_request seq name)) from k 0 name [] (create_request seq name) pieces (begun st from k seq name h) refl (inl refl) fits.each (omega (arith, fits.whole))

pub hidden : (st : FilesState) (from : Stream) (k seq : ℕ) (name : List ℕ) (pieces : List Piece) → CanCreate st from k seq name → AreWritable pieces
    → file_named (written st from k seq name pieces) name ≡ None
hidden st from k seq name pieces h fits =
    ap (bytes_at (written st from k seq name pieces).files) (run st from k seq name pieces h fits).writing.new

pub stored : (st : FilesState) (from : Stream) (k seq : ℕ) (name : List ℕ) (pieces : List Piece) → CanCreate st from k seq name → AreWritable pieces → (last : ℕ)
    → file_named (files_after (written st from k seq name pieces) from (end_request last k)) name ≡ Some (all_bytes pieces)
stored st from k seq name pieces h fits last =
    seen (written st from k seq name pieces) from k last name (all_bytes pieces) (run st from k seq name pieces h fits)
