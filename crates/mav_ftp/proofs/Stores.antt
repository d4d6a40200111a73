-- A store, request by request: CreateFile, each WriteFile, TerminateSession.
use Rattle.std.proofs.Common.{◌≡◌, ℕ, suc, zero, ◌+◌, ◌-◌, ◌<◌, ◌≤◌, ◌^◌, ◌&&◌, Bool, true, false, min, List, [], ◌∷◌, ◌++◌, length, take, drop, get_or, slice_set, Option, Some, None, if◌then◌else◌, nat_le, nat_lt, append-nil, refl, ap, sym, ◌∙◌, arith}
use Rattle.std.proofs.Math.ListN.{set}
use Rattle.std.proofs.Math.Seq.{take-add}
use Rattle.std.specs.List.{list_all}
use Rattle.std.proofs.lemmas.Bool.{and_parts}
use Rattle.std.proofs.lemmas.List.{length-take, length-take-le, length-drop, set-set, take_all, drop_all, take_min, set-get_or}
use Rattle.mav_names.specs.declared.names.Stream.{Stream}
use Rattle.mav_ftp.specs.declared.exchanges.Exchange.{Exchange}
use Rattle.mav_ftp.specs.declared.payload.FtpFields.{FtpFields}
use Rattle.mav_ftp.specs.declared.client.ends.FtpStep.{FtpStep}
use Rattle.mav_ftp.specs.declared.client.ends.FtpStep.TheVariants.{Done}
use Rattle.mav_ftp.specs.Payload.{ack, most_data, most_file, fields_of, sized_data, is_file_name, is_name_byte}
use Rattle.mav_ftp.specs.Client.{Transfer, Creating, Writing, Committing, Goes_on, Is_done, request_seq, request_size, request_fields, request_data, transfer_request, next_write, begun}
use Rattle.mav_ftp.specs.Files.{most_files, file_at}
use Rattle.mav_ftp.specs.Sessions.{Session, free_session, session_of, in_slot, overwritten}
use Rattle.mav_ftp.specs.Replies.{ack_of}
use Rattle.mav_ftp.specs.Steps.{Storage, Served, storage_step, creates, writes, write_error, writes_unless, with_session, with_bytes, terminates, publishes}
use Rattle.mav_ftp.specs.ClientLaws.{FtpLink}
use Rattle.mav_ftp.proofs.Found.{set_is}
use Rattle.mav_ftp.proofs.KeptExchanges.{same_self}
use Rattle.mav_ftp.proofs.ReadBack.{numbers_back, data_back}
use Rattle.mav_ftp.proofs.NewRequests.{IsFresh, IsSmall, seq_small}
use Rattle.mav_ftp.proofs.Turns.{Turn, Ends, Closed, link_at, goes_on, is_done, acks}

-- ---- requests that are read

pub below : (a b : ℕ) → a ≤ b → nat_lt b a ≡ false
below a b h = grind arith

pub above : (a b : ℕ) → a < b → nat_lt a b ≡ true
above a b h = grind arith

-- a request of which the size is that of its data
pub read_whole : (from : Stream) (last : Option ℕ) (t : Transfer) (st : Storage) → IsSmall t
    → request_size t t.phase ≡ length (request_data t t.phase)
    → storage_step st from (fields_of (transfer_request (request_seq last) t)) (sized_data (transfer_request (request_seq last) t))
    ≡ storage_step st from (request_fields (request_seq last) t) (request_data t t.phase)
read_whole from last t st small size =
    let p = transfer_request (request_seq last) t in
    let r = request_fields (request_seq last) t in
    ap (λ f. storage_step st from f (sized_data p)) (numbers_back r (request_data t t.phase) (seq_small last) small)
    ∙ ap (λ d. storage_step st from r d) (data_back r (request_data t t.phase) size)

pub short_name : (name : List ℕ) → is_file_name name ≡ true → length name ≤ 64
short_name name valid =
    let parts = and_parts (nat_le 1 (length name) && nat_le (length name) 64) (list_all is_name_byte name) valid in
    let few = (and_parts (nat_le 1 (length name)) (nat_le (length name) 64) parts.0).1 in
    grind (arith, few)

-- a session that was put into a slot is found there
pub found : (slots : List (Option Session)) (number : ℕ) (s : Session) → number < length slots
    → session_of (slice_set slots number (Some s)) s.stream number ≡ Some s
found slots number s h =
    ap (λ slot. in_slot s.stream slot) (set_is slots number (Some s) h) ∙ ap (λ b. if b then Some s else None) (same_self s.stream)

-- ---- CreateFile

abbrev pub writing_to : Stream → List ℕ → List ℕ → Session
writing_to from name bytes = record { stream = from; name = Some name; bytes = bytes }

abbrev pub writes_at : List ℕ → ℕ → ℕ → Transfer
writes_at bytes session written = record { phase = Writing; name = []; bytes = bytes; session = session; written = written; idle = 0 }

abbrev pub commits : List ℕ → ℕ → ℕ → Transfer
commits bytes session written = record { phase = Committing; name = []; bytes = bytes; session = session; written = written; idle = 0 }

created : (from : Stream) (r : FtpFields) (name : List ℕ) (st : Storage) (number : ℕ)
    → is_file_name name ≡ true → file_at st.files name ≡ None → free_session st.sessions ≡ Some number
    → creates st from r name ≡ record { storage = with_session st number (Some (writing_to from name [])); reply = ack_of r number [] }
created from r name st number valid absent free = rw (valid, absent, free) refl

create_turn : (from : Stream) (last : Option ℕ) (name bytes : List ℕ) (st : Storage) (number : ℕ)
    → is_file_name name ≡ true → file_at st.files name ≡ None → free_session st.sessions ≡ Some number → length bytes ≤ most_file
    → Turn from last (begun Creating name bytes) st (with_session st number (Some (writing_to from name []))) (Goes_on (next_write (writes_at bytes number 0)))
create_turn from last name bytes st number valid absent free fits =
    let t = begun Creating name bytes in
    let r = request_fields (request_seq last) t in
    let short : nat_lt most_data (length name) ≡ false = below (length name) most_data (omega (arith, short_name name valid)) in
    record {
      opcode = ack;
      session = number;
      out = [];
      small = omega arith;
      serves = read_whole from last t st (omega arith) refl ∙ rw short (created from r name st number valid absent free);
      replies = acks (request_seq last) t number [] (omega arith) (omega arith) (omega (arith, fits));
      goes = λ idle. refl;
    }

-- ---- WriteFile

-- the bytes that are left are at least one
piece_size : (bytes : List ℕ) (written : ℕ) → length (take 239 (drop written bytes)) ≡ min 239 (length bytes - written)
piece_size bytes written = length-take 239 (drop written bytes) ∙ ap (λ n. min 239 n) (length-drop written bytes)

-- bytes that are written after the others
written_on : (bytes : List ℕ) (written : ℕ) → written ≤ length bytes
    → overwritten (take written bytes) written (take 239 (drop written bytes)) ≡ take (written + length (take 239 (drop written bytes))) bytes
written_on bytes written h =
    let piece = take 239 (drop written bytes) in
    let size : length (take written bytes) ≡ written = length-take-le written bytes h in
    let first : take written (take written bytes) ≡ take written bytes = take_all written (take written bytes) (omega (arith, size)) in
    let rest : drop (written + length piece) (take written bytes) ≡ [] = drop_all (written + length piece) (take written bytes) (omega (arith, size)) in
    let whole : take (length piece) (drop written bytes) ≡ piece =
    ap (λ n. take n (drop written bytes)) (length-take 239 (drop written bytes)) ∙ take_min 239 (drop written bytes) in
    ap (λ (a, b). a ++ (piece ++ b)) (ap (λ a. (a, drop (written + length piece) (take written bytes))) first ∙ ap (λ b. (take written bytes, b)) rest)
    ∙ ap (λ c. take written bytes ++ c) (append-nil piece ∙ sym whole)
    ∙ sym (take-add written (length piece) bytes)

wrote : (from : Stream) (r : FtpFields) (name held given after : List ℕ) (st : Storage)
    → r.session < length st.sessions → nat_lt (length held) r.offset ≡ false → nat_lt most_file (r.offset + length given) ≡ false
    → overwritten held r.offset given ≡ after
    → writes (with_session st r.session (Some (writing_to from name held))) r given (session_of (slice_set st.sessions r.session (Some (writing_to from name held))) from r.session)
    ≡ record { storage = with_session st r.session (Some (writing_to from name after)); reply = ack_of r r.session [] }
wrote from r name held given after st inside no_hole fits is =
    let s = writing_to from name held in
    let now = with_session st r.session (Some s) in
    let no_error : write_error r given s ≡ None = rw (no_hole, fits) refl in
    ap (λ o. writes now r given o) (found st.sessions r.session s inside)
    ∙ ap (λ e. writes_unless now r given s e) no_error
    ∙ ap (λ (slots : List (Option Session)). let served : Served = record { storage = record { files = st.files; sessions = slots }; reply = ack_of r r.session [] } in served)
    (set-set st.sessions r.session (Some s) (Some (with_bytes s (overwritten held r.offset given))) ∙ ap (λ b. slice_set st.sessions r.session (Some (writing_to from name b))) is)

write_turn : (from : Stream) (last : Option ℕ) (name bytes : List ℕ) (st : Storage) (number written : ℕ)
    → number < length st.sessions → written < length bytes → length bytes ≤ most_file
    → Turn from last (writes_at bytes number written)
    (with_session st number (Some (writing_to from name (take written bytes))))
    (with_session st number (Some (writing_to from name (take (written + length (take 239 (drop written bytes))) bytes))))
    (Goes_on (next_write (writes_at bytes number (written + length (take 239 (drop written bytes))))))
write_turn from last name bytes st number written inside more fits =
    let t = writes_at bytes number written in
    let piece = take 239 (drop written bytes) in
    let r = request_fields (request_seq last) t in
    let now = with_session st number (Some (writing_to from name (take written bytes))) in
    let size = piece_size bytes written in
    let short : nat_lt most_data (length piece) ≡ false = below (length piece) most_data (omega (arith, size)) in
    let no_hole : nat_lt (length (take written bytes)) written ≡ false = below written (length (take written bytes)) (omega (arith, length-take-le written bytes (omega (arith, more)))) in
    let enough : nat_lt most_file (written + length piece) ≡ false = below (written + length piece) most_file (omega (arith, size, more, fits)) in
    record {
      opcode = ack;
      session = number;
      out = [];
      small = omega (arith, more, fits);
      serves = read_whole from last t now (omega (arith, more, fits)) refl
          ∙ rw short (wrote from r name (take written bytes) piece (take (written + length piece) bytes) st inside no_hole enough (written_on bytes written (omega (arith, more))));
      replies = acks (request_seq last) t number [] (omega arith) (omega arith) (omega (arith, fits));
      goes = λ idle. refl;
    }

-- ---- TerminateSession

published : (from : Stream) (r : FtpFields) (name bytes : List ℕ) (st : Storage)
    → r.session < length st.sessions → get_or st.sessions r.session None ≡ None
    → file_at st.files name ≡ None → nat_lt (length st.files) most_files ≡ true
    → terminates (with_session st r.session (Some (writing_to from name bytes))) r (session_of (slice_set st.sessions r.session (Some (writing_to from name bytes))) from r.session)
    ≡ record { storage = record st { files = st.files ++ record { name = name; bytes = bytes } ∷ [] }; reply = ack_of r r.session [] }
published from r name bytes st inside free absent room =
    let s = writing_to from name bytes in
    let now = with_session st r.session (Some s) in
    let as_before : slice_set (slice_set st.sessions r.session (Some s)) r.session None ≡ st.sessions =
    set-set st.sessions r.session (Some s) None ∙ ap (λ o. slice_set st.sessions r.session o) (sym free) ∙ set-get_or st.sessions r.session None in
    ap (λ o. terminates now r o) (found st.sessions r.session s inside)
    ∙ ap (λ (slots : List (Option Session)). publishes (record { files = st.files; sessions = slots }) r name bytes) as_before
    ∙ rw (absent, room) refl

commit_turn : (from : Stream) (last : Option ℕ) (name bytes : List ℕ) (st : Storage) (number written : ℕ)
    → number < length st.sessions → get_or st.sessions number None ≡ None → length bytes ≤ written → length bytes ≤ most_file
    → file_at st.files name ≡ None → length st.files < most_files
    → Turn from last (commits bytes number written)
    (with_session st number (Some (writing_to from name (take written bytes))))
    (record st { files = st.files ++ record { name = name; bytes = bytes } ∷ [] })
    (Is_done [])
commit_turn from last name bytes st number written inside free whole fits absent room =
    let t = commits bytes number written in
    let r = request_fields (request_seq last) t in
    let now = with_session st number (Some (writing_to from name (take written bytes))) in
    record {
      opcode = ack;
      session = number;
      out = [];
      small = omega arith;
      serves = read_whole from last t now (omega arith) refl
          ∙ published from r name (take written bytes) st inside free absent (above (length st.files) most_files room)
          ∙ ap (λ b. let served : Served = record { storage = record st { files = st.files ++ record { name = name; bytes = b } ∷ [] }; reply = ack_of r number [] } in served) (take_all written bytes whole);
      replies = acks (request_seq last) t number [] (omega arith) (omega arith) (omega (arith, fits));
      goes = λ idle. refl;
    }

-- ---- the whole store

-- the storage with a file more
abbrev pub with_file : Storage → List ℕ → List ℕ → Storage
with_file st name bytes = record st { files = st.files ++ record { name = name; bytes = bytes } ∷ [] }

-- a file can be made, in this session
pub record HasRoom (st : Storage) (name bytes : List ℕ) (number : ℕ) : Type 0 where
  pub inside : number < length st.sessions
  pub unused : get_or st.sessions number None ≡ None
  pub fits : length bytes ≤ most_file
  pub absent : file_at st.files name ≡ None
  pub room : length st.files < most_files

small_either : (bytes : List ℕ) (number written : ℕ) (b : Bool) → written < 2 ^ 32
    → IsSmall (if b then writes_at bytes number written else commits bytes number written)
small_either bytes number written true h = h
small_either bytes number written false h = omega arith

small_write : (bytes : List ℕ) (number written : ℕ) → written < 2 ^ 32 → IsSmall (next_write (writes_at bytes number written))
small_write bytes number written h = small_either bytes number written (nat_lt written (length bytes)) h

-- what is left is written, and the session terminated
write_rest : (from : Stream) (name bytes : List ℕ) (st : Storage) (number : ℕ) → HasRoom st name bytes number
    → (k written : ℕ) → length bytes ≤ written + k
    → (b : Bool) → nat_lt written (length bytes) ≡ b
    → (last : Option ℕ) (exchanges : List Exchange) (answer : FtpStep)
    → IsFresh exchanges from (transfer_request (request_seq last) (if b then writes_at bytes number written else commits bytes number written))
    → Ends (Closed from (with_file st name bytes) (Done [])) from (k + 1)
    (link_at last (if b then writes_at bytes number written else commits bytes number written) (with_session st number (Some (writing_to from name (take written bytes)))) exchanges answer)
write_rest from name bytes st number has k written left false done last exchanges answer fresh =
    let whole : length bytes ≤ written = grind (arith, done) in
    let turn = commit_turn from last name bytes st number written has.inside has.unused whole has.fits has.absent has.room in
    let ends = is_done from last (commits bytes number written) (with_session st number (Some (writing_to from name (take written bytes)))) (with_file st name bytes) [] turn exchanges answer fresh in
    λ ds few h. ends ds few (omega (arith, h))
write_rest from name bytes st number has zero written left true more last exchanges answer fresh = absurd (grind (arith, more, left))
write_rest from name bytes st number has (suc k) written left true more last exchanges answer fresh =
    let some : written < length bytes = grind (arith, more) in
    let piece = take 239 (drop written bytes) in
    let size = piece_size bytes written in
    let next : ℕ = written + length piece in
    let slot : Storage = with_session st number (Some (writing_to from name (take written bytes))) in
    let P : FtpLink → Type 0 = λ l. Closed from (with_file st name bytes) (Done []) l in
    let turn = write_turn from last name bytes st number written has.inside some has.fits in
    let rest = write_rest from name bytes st number has k next (omega (arith, size, left, some)) (nat_lt next (length bytes)) refl in
    let ends = goes_on P from (k + 1) last (writes_at bytes number written) slot (with_session st number (Some (writing_to from name (take next bytes)))) (next_write (writes_at bytes number next))
    turn (small_write bytes number next (omega (arith, size, some, has.fits))) rest exchanges answer fresh in
    λ ds few h. ends ds few (omega (arith, h))

-- as many requests as there are bytes, and two more, are enough
pub stores : (from : Stream) (name bytes : List ℕ) (st : Storage) (number : ℕ) → HasRoom st name bytes number
    → is_file_name name ≡ true → free_session st.sessions ≡ Some number
    → (last : Option ℕ) (exchanges : List Exchange) (answer : FtpStep)
    → IsFresh exchanges from (transfer_request (request_seq last) (begun Creating name bytes))
    → Ends (Closed from (with_file st name bytes) (Done [])) from (length bytes + 2) (link_at last (begun Creating name bytes) st exchanges answer)
stores from name bytes st number has valid free last exchanges answer fresh =
    let P : FtpLink → Type 0 = λ l. Closed from (with_file st name bytes) (Done []) l in
    let turn = create_turn from last name bytes st number valid has.absent free has.fits in
    let rest = write_rest from name bytes st number has (length bytes) 0 (omega arith) (nat_lt 0 (length bytes)) refl in
    let ends = goes_on P from (length bytes + 1) last (begun Creating name bytes) st (with_session st number (Some (writing_to from name []))) (next_write (writes_at bytes number 0))
    turn (small_write bytes number 0 (omega arith)) rest exchanges answer fresh in
    λ ds few h. ends ds few (omega (arith, h))
