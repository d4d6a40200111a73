-- A fetch, request by request: OpenFileRO, each ReadFile, TerminateSession.
use Rattle.std.proofs.Common.{◌≡◌, ℕ, suc, zero, ◌+◌, ◌-◌, ◌<◌, ◌≤◌, ◌^◌, Bool, true, false, min, List, [], ◌∷◌, ◌++◌, length, take, drop, get_or, slice_set, Option, Some, None, nat_lt, refl, ap, sym, subst, ◌∙◌, arith}
use Rattle.std.specs.Int.{w32, to_le_bytes}
use Rattle.std.proofs.Math.Seq.{take-add}
use Rattle.std.proofs.lemmas.List.{length-take, length-take-le, length-drop, set-set, set-get_or, take_all}
use Rattle.mav_names.specs.declared.names.Stream.{Stream}
use Rattle.mav_ftp.specs.declared.exchanges.Exchange.{Exchange}
use Rattle.mav_ftp.specs.declared.client.ends.FtpStep.{FtpStep}
use Rattle.mav_ftp.specs.declared.client.ends.FtpStep.TheVariants.{Done}
use Rattle.mav_ftp.specs.Payload.{ack, nak, end_of_file, most_data, most_file, fields_of, sized_data, is_file_name}
use Rattle.mav_ftp.specs.Client.{Transfer, Opening, Reading, Closing, Goes_on, Is_done, request_seq, request_fields, transfer_request, begun}
use Rattle.mav_ftp.specs.Files.{bytes_named}
use Rattle.mav_ftp.specs.Sessions.{Session, free_session, session_of}
use Rattle.mav_ftp.specs.Replies.{ack_of}
use Rattle.mav_ftp.specs.Steps.{Storage, storage_step, opens, reads, reads_from, terminates, with_session, refuses, accepts}
use Rattle.mav_ftp.specs.ClientLaws.{FtpLink}
use Rattle.mav_ftp.proofs.ReadBack.{numbers_back}
use Rattle.mav_ftp.proofs.NewRequests.{IsFresh, seq_small}
use Rattle.mav_ftp.proofs.Turns.{Turn, Ends, Closed, link_at, goes_on, is_done, acks, naks}
use Rattle.mav_ftp.proofs.Stores.{below, above, read_whole, short_name, found}

-- a session that reads these bytes, and the operation in it
abbrev pub reading_of : Stream → List ℕ → Session
reading_of from bytes = record { stream = from; name = None; bytes = bytes }

abbrev pub reads_at : ℕ → List ℕ → Transfer
reads_at session held = record { phase = Reading; name = []; bytes = held; session = session; written = 0; idle = 0 }

abbrev pub closes_at : ℕ → List ℕ → Transfer
closes_at session held = record { phase = Closing; name = []; bytes = held; session = session; written = 0; idle = 0 }

abbrev pub with_reader : Storage → ℕ → Stream → List ℕ → Storage
with_reader st number from bytes = with_session st number (Some (reading_of from bytes))

-- ---- OpenFileRO

open_turn : (from : Stream) (last : Option ℕ) (name bytes : List ℕ) (st : Storage) (number : ℕ)
    → is_file_name name ≡ true → bytes_named st.files name ≡ Some bytes → free_session st.sessions ≡ Some number
    → Turn from last (begun Opening name []) st (with_reader st number from bytes) (Goes_on (reads_at number []))
open_turn from last name bytes st number valid there free =
    let t = begun Opening name [] in
    let r = request_fields (request_seq last) t in
    let short : nat_lt most_data (length name) ≡ false = below (length name) most_data (omega (arith, short_name name valid)) in
    let opened : opens st from r (bytes_named st.files name) (free_session st.sessions) ≡ record { storage = with_reader st number from bytes; reply = ack_of r number (to_le_bytes w32 (length bytes)) } =
    ap (λ (b, n). opens st from r b n) (ap (λ b. (b, free_session st.sessions)) there ∙ ap (λ n. (Some bytes, n)) free) in
    record {
      opcode = ack;
      session = number;
      out = to_le_bytes w32 (length bytes);
      small = omega arith;
      serves = read_whole from last t st (omega arith) refl ∙ rw short opened;
      replies = acks (request_seq last) t number (to_le_bytes w32 (length bytes)) (omega arith) (omega arith) (omega arith);
      goes = λ idle. refl;
    }

-- ---- ReadFile

-- whatever stands in its data
read_request : (from : Stream) (last : Option ℕ) (st : Storage) (session : ℕ) (held : List ℕ) → length held < 2 ^ 32
    → storage_step st from (fields_of (transfer_request (request_seq last) (reads_at session held))) (sized_data (transfer_request (request_seq last) (reads_at session held)))
    ≡ reads st (request_fields (request_seq last) (reads_at session held)) (session_of st.sessions from session)
read_request from last st session held small =
    let t = reads_at session held in
    let r = request_fields (request_seq last) t in
    ap (λ f. storage_step st from f (sized_data (transfer_request (request_seq last) t))) (numbers_back r [] (seq_small last) small)

piece_size : (bytes : List ℕ) (k : ℕ) → length (take 239 (drop k bytes)) ≡ min 239 (length bytes - k)
piece_size bytes k = length-take 239 (drop k bytes) ∙ ap (λ n. min 239 n) (length-drop k bytes)

-- the bytes up to one index, and those that are read from there on
read_on : (bytes : List ℕ) (k : ℕ) → take k bytes ++ take 239 (drop k bytes) ≡ take (k + 239) bytes
read_on bytes k = sym (take-add k 239 bytes)

read_turn : (from : Stream) (last : Option ℕ) (bytes : List ℕ) (st : Storage) (number k : ℕ)
    → number < length st.sessions → k < length bytes → length bytes ≤ most_file
    → Turn from last (reads_at number (take k bytes)) (with_reader st number from bytes) (with_reader st number from bytes) (Goes_on (reads_at number (take (k + 239) bytes)))
read_turn from last bytes st number k inside more fits =
    let held = take k bytes in
    let t = reads_at number held in
    let r = request_fields (request_seq last) t in
    let now = with_reader st number from bytes in
    let piece = take 239 (drop k bytes) in
    let here : length held ≡ k = length-take-le k bytes (omega (arith, more)) in
    let before_end : nat_lt (length held) (length bytes) ≡ true = above (length held) (length bytes) (omega (arith, here, more)) in
    let size = piece_size bytes k in
    let given : reads_from now r None bytes ≡ accepts now r (take 239 (drop (length held) bytes)) = rw before_end refl in
    record {
      opcode = ack;
      session = number;
      out = piece;
      small = omega (arith, here, more, fits);
      serves = read_request from last now number held (omega (arith, here, more, fits))
          ∙ ap (λ o. reads now r o) (found st.sessions number (reading_of from bytes) inside)
          ∙ given
          ∙ ap (λ i. accepts now r (take 239 (drop i bytes))) here;
      replies = acks (request_seq last) t number piece (omega (arith, size, more)) (omega (arith, size)) (omega (arith, size, here, more, fits));
      goes = λ idle. ap (λ b. Goes_on (reads_at number b)) (read_on bytes k);
    }

end_turn : (from : Stream) (last : Option ℕ) (bytes : List ℕ) (st : Storage) (number : ℕ)
    → number < length st.sessions → length bytes ≤ most_file
    → Turn from last (reads_at number bytes) (with_reader st number from bytes) (with_reader st number from bytes) (Goes_on (closes_at number bytes))
end_turn from last bytes st number inside fits =
    let t = reads_at number bytes in
    let r = request_fields (request_seq last) t in
    let now = with_reader st number from bytes in
    let at_end : nat_lt (length bytes) (length bytes) ≡ false = below (length bytes) (length bytes) (omega arith) in
    let refused : reads_from now r None bytes ≡ refuses now r end_of_file = rw at_end refl in
    record {
      opcode = nak;
      session = number;
      out = end_of_file ∷ [];
      small = omega (arith, fits);
      serves = read_request from last now number bytes (omega (arith, fits))
          ∙ ap (λ o. reads now r o) (found st.sessions number (reading_of from bytes) inside)
          ∙ refused;
      replies = naks (request_seq last) t number end_of_file (omega arith) (omega (arith, fits));
      goes = λ idle. refl;
    }

-- ---- TerminateSession

close_turn : (from : Stream) (last : Option ℕ) (bytes : List ℕ) (st : Storage) (number : ℕ)
    → number < length st.sessions → get_or st.sessions number None ≡ None → length bytes ≤ most_file
    → Turn from last (closes_at number bytes) (with_reader st number from bytes) st (Is_done bytes)
close_turn from last bytes st number inside unused fits =
    let t = closes_at number bytes in
    let r = request_fields (request_seq last) t in
    let now = with_reader st number from bytes in
    let s = reading_of from bytes in
    let as_before : slice_set (slice_set st.sessions number (Some s)) number None ≡ st.sessions =
    set-set st.sessions number (Some s) None ∙ ap (λ o. slice_set st.sessions number o) (sym unused) ∙ set-get_or st.sessions number None in
    record {
      opcode = ack;
      session = number;
      out = [];
      small = omega arith;
      serves = read_whole from last t now (omega arith) refl
          ∙ ap (λ o. terminates now r o) (found st.sessions number s inside)
          ∙ ap (λ (slots : List (Option Session)). accepts (record { files = st.files; sessions = slots }) r []) as_before;
      replies = acks (request_seq last) t number [] (omega arith) (omega arith) (omega (arith, fits));
      goes = λ idle. refl;
    }

-- ---- the whole fetch

-- a file can be read, in this session
pub record CanRead (st : Storage) (name bytes : List ℕ) (number : ℕ) : Type 0 where
  pub inside : number < length st.sessions
  pub unused : get_or st.sessions number None ≡ None
  pub fits : length bytes ≤ most_file
  pub there : bytes_named st.files name ≡ Some bytes

-- the end is met, and the session terminated
close_rest : (from : Stream) (name bytes : List ℕ) (st : Storage) (number : ℕ) → CanRead st name bytes number
    → (last : Option ℕ) (exchanges : List Exchange) (answer : FtpStep) → IsFresh exchanges from (transfer_request (request_seq last) (reads_at number bytes))
    → Ends (Closed from st (Done bytes)) from 2 (link_at last (reads_at number bytes) (with_reader st number from bytes) exchanges answer)
close_rest from name bytes st number can last exchanges answer fresh =
    let P : FtpLink → Type 0 = λ l. Closed from st (Done bytes) l in
    let now = with_reader st number from bytes in
    goes_on P from 1 last (reads_at number bytes) now now (closes_at number bytes) (end_turn from last bytes st number can.inside can.fits) (omega arith)
    (λ last. is_done from last (closes_at number bytes) now st bytes (close_turn from last bytes st number can.inside can.unused can.fits)) exchanges answer fresh

-- what is left is read
read_rest : (from : Stream) (name bytes : List ℕ) (st : Storage) (number : ℕ) → CanRead st name bytes number
    → (left k : ℕ) → length bytes ≤ k + left
    → (b : Bool) → nat_lt k (length bytes) ≡ b
    → (last : Option ℕ) (exchanges : List Exchange) (answer : FtpStep) → IsFresh exchanges from (transfer_request (request_seq last) (reads_at number (take k bytes)))
    → Ends (Closed from st (Done bytes)) from (left + 2) (link_at last (reads_at number (take k bytes)) (with_reader st number from bytes) exchanges answer)
read_rest from name bytes st number can left k few false done last exchanges answer fresh =
    let whole : take k bytes ≡ bytes = take_all k bytes (grind (arith, done)) in
    let fresh_whole = subst (λ b. IsFresh exchanges from (transfer_request (request_seq last) (reads_at number b))) whole fresh in
    let ends = close_rest from name bytes st number can last exchanges answer fresh_whole in
    let same = subst (λ b. Ends (Closed from st (Done bytes)) from 2 (link_at last (reads_at number b) (with_reader st number from bytes) exchanges answer)) (sym whole) ends in
    λ ds few_lost h. same ds few_lost (omega (arith, h))
read_rest from name bytes st number can zero k few true more last exchanges answer fresh = absurd (grind (arith, more, few))
read_rest from name bytes st number can (suc left) k few true more last exchanges answer fresh =
    let P : FtpLink → Type 0 = λ l. Closed from st (Done bytes) l in
    let now = with_reader st number from bytes in
    let some : k < length bytes = grind (arith, more) in
    let held : length (take (k + 239) bytes) ≡ min (k + 239) (length bytes) = length-take (k + 239) bytes in
    let rest = read_rest from name bytes st number can left (k + 239) (omega (arith, few)) (nat_lt (k + 239) (length bytes)) refl in
    let ends = goes_on P from (left + 2) last (reads_at number (take k bytes)) now now (reads_at number (take (k + 239) bytes)) (read_turn from last bytes st number k can.inside some can.fits)
    (omega (arith, held, can.fits)) rest exchanges answer fresh in
    λ ds few_lost h. ends ds few_lost (omega (arith, h))

-- as many requests as there are bytes, and three more, are enough
pub fetches : (from : Stream) (name bytes : List ℕ) (st : Storage) (number : ℕ) → CanRead st name bytes number
    → is_file_name name ≡ true → free_session st.sessions ≡ Some number
    → (last : Option ℕ) (exchanges : List Exchange) (answer : FtpStep) → IsFresh exchanges from (transfer_request (request_seq last) (begun Opening name []))
    → Ends (Closed from st (Done bytes)) from (length bytes + 3) (link_at last (begun Opening name []) st exchanges answer)
fetches from name bytes st number can valid free last exchanges answer fresh =
    let P : FtpLink → Type 0 = λ l. Closed from st (Done bytes) l in
    let now = with_reader st number from bytes in
    let rest = read_rest from name bytes st number can (length bytes) 0 (omega arith) (nat_lt 0 (length bytes)) refl in
    let ends = goes_on P from (length bytes + 2) last (begun Opening name []) st now (reads_at number []) (open_turn from last name bytes st number valid can.there free)
    (omega arith) rest exchanges answer fresh in
    λ ds few_lost h. ends ds few_lost (omega (arith, h))
