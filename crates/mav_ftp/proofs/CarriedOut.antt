-- A file that is fetched, and one that is stored and then fetched.
use Rattle.std.proofs.Common.{◌<◌, ◌≡◌, ℕ, ◌≤◌, Bool, true, false, is_some, List, [], ◌∷◌, ◌++◌, length, get_or, Option, Some, None, if◌then◌else◌, nat_le, refl, ap, sym, subst, ◌∙◌, arith}
use Rattle.std.proofs.lemmas.List.Quantifiers.{position-Some}
use Rattle.std.proofs.lemmas.Option.{slice_get-get_or}
use Rattle.std.proofs.lemmas.Slice.Eq.{bytes_eq-Decides}
use Rattle.mav_names.specs.declared.names.Stream.{Stream}
use Rattle.mav_ftp.specs.declared.client.ends.FtpStep.TheVariants.{Quiet, Done}
use Rattle.mav_ftp.specs.declared.client.faults.FtpFault.TheVariants.{BadName, TooLarge}
use Rattle.mav_ftp.specs.Payload.{most_file, is_file_name}
use Rattle.mav_ftp.specs.Client.{TransferState, Transfer, Opening, fetch_order, store_order, remove_order, fault_with, order_fault, begun}
use Rattle.mav_ftp.specs.Files.{File, is_named, file_at, bytes_of, bytes_at, bytes_named}
use Rattle.mav_ftp.specs.Sessions.{Session, is_free, free_session}
use Rattle.mav_ftp.specs.Steps.{Storage}
use Rattle.mav_ftp.specs.Server.{FilesState, storage_of}
use Rattle.mav_ftp.specs.ClientLaws.{FtpLink, Delivery, IsEnough, carried_out, CanFetch, Fetched, CanStore, Stored, StoredAndFetched}
use Rattle.mav_ftp.proofs.Found.{found_last, last_is, inside_by}
use Rattle.mav_ftp.proofs.Turns.{Closed}
use Rattle.mav_ftp.proofs.Stores.{HasRoom, with_file, stores}
use Rattle.mav_ftp.proofs.Fetches.{CanRead, fetches}

-- ---- what a client accepts

valid_store : (valid fits : Bool) (name bytes : List ℕ)
    → (if valid then (if fits then None else Some (TooLarge (length bytes))) else Some BadName) ≡ None → (valid ≡ true) × (fits ≡ true)
valid_store true true name bytes e = (refl, refl)
valid_store true false name bytes e = absurd (cc)
valid_store false fits name bytes e = absurd (cc)

pub accepted_store : (operation : Option Transfer) (name bytes : List ℕ) → fault_with operation (store_order name bytes) ≡ None
    → (is_file_name name ≡ true) × (nat_le (length bytes) most_file ≡ true)
accepted_store None name bytes e = valid_store (is_file_name name) (nat_le (length bytes) most_file) name bytes e
accepted_store (Some t) name bytes e = absurd (cc)

valid_name : (valid : Bool) → (if valid then None else Some BadName) ≡ None → valid ≡ true
valid_name true e = refl
valid_name false e = absurd (cc)

pub accepted_fetch : (operation : Option Transfer) (name : List ℕ) → fault_with operation (fetch_order name) ≡ None → is_file_name name ≡ true
accepted_fetch None name e = valid_name (is_file_name name) e
accepted_fetch (Some t) name e = absurd (cc)

pub accepted_remove : (operation : Option Transfer) (name : List ℕ) → fault_with operation (remove_order name) ≡ None → is_file_name name ≡ true
accepted_remove None name e = valid_name (is_file_name name) e
accepted_remove (Some t) name e = absurd (cc)

-- ---- what a server finds

value_of : (o : Option ℕ) → is_some o ≡ true → (n : ℕ) × (o ≡ Some n)
value_of None e = absurd (cc)
value_of (Some n) e = (n, refl)

unused_is : (slot : Option Session) → is_free slot ≡ true → slot ≡ None
unused_is None e = refl
unused_is (Some s) e = absurd (cc)

no_file : (files : List File) (name : List ℕ) → bytes_named files name ≡ None → (at : Option ℕ) → file_at files name ≡ at → at ≡ None
no_file files name none None e = refl
no_file files name none (Some index) e =
    let d : File = record { name = name; bytes = [] } in
    let there : bytes_named files name ≡ Some (get_or files index d).bytes =
    ap (bytes_at files) e ∙ ap bytes_of (slice_get-get_or files index d (inside_by (is_named name) files index d e)) in
    absurd (let never = sym none ∙ there in cc)

file_found : (files : List File) (name bytes : List ℕ) → file_at files name ≡ None
    → bytes_named (files ++ record { name = name; bytes = bytes } ∷ []) name ≡ Some bytes
file_found files name bytes absent =
    let f : File = record { name = name; bytes = bytes } in
    let itself : is_named name f ≡ true = (bytes_eq-Decides name name).1 refl in
    let at : file_at (files ++ f ∷ []) name ≡ Some (length files) = found_last (is_named name) files f absent itself in
    rw (at, last_is files f) refl

-- ---- both

is_stored : (from : Stream) (name bytes : List ℕ) (s : FilesState) (put : FtpLink) → Closed from (with_file (storage_of s) name bytes) (Done []) put → Stored name bytes s put
is_stored from name bytes s put closed = record {
  answer = ap (λ (l : FtpLink). l.answer) closed.is;
  files = ap (λ (l : FtpLink). l.server.files) closed.is;
  sessions = ap (λ (l : FtpLink). l.server.sessions) closed.is;
}

is_fetched : (from : Stream) (bytes : List ℕ) (st : Storage) (s : FilesState) (got : FtpLink) → st.files ≡ s.files → st.sessions ≡ s.sessions
    → Closed from st (Done bytes) got → Fetched bytes s got
is_fetched from bytes st s got files sessions closed = record {
  answer = ap (λ (l : FtpLink). l.answer) closed.is;
  files = ap (λ (l : FtpLink). l.server.files) closed.is ∙ files;
  sessions = ap (λ (l : FtpLink). l.server.sessions) closed.is ∙ sessions;
}

-- the session that is opened
pub record OpensFirst (s : FilesState) : Type 0 where
  pub number : ℕ
  pub free : free_session s.sessions ≡ Some number
  pub inside : number < length s.sessions
  pub unused : get_or s.sessions number None ≡ None

opens_first : (s : FilesState) → is_some (free_session s.sessions) ≡ true → OpensFirst s
opens_first s some =
    let free = value_of (free_session s.sessions) some in
    record {
      number = free.0;
      free = free.1;
      inside = inside_by is_free s.sessions free.0 None free.1;
      unused = unused_is (get_or s.sessions free.0 None) (position-Some is_free s.sessions free.0 None free.1).1;
    }

both_ends : (from : Stream) (name bytes : List ℕ) (s : FilesState) (put got : FtpLink) → is_file_name name ≡ true
    → Closed from (with_file (storage_of s) name bytes) (Done []) put → Closed from (with_file (storage_of s) name bytes) (Done bytes) got
    → StoredAndFetched name bytes s put got
both_ends from name bytes s put got valid closed after = record {
  stored = is_stored from name bytes s put closed;
  accepted = ap (λ (l : FtpLink). order_fault l.client (fetch_order name)) closed.is ∙ ap (λ b. if b then None else Some BadName) valid;
  fetched = is_fetched from bytes (with_file (storage_of s) name bytes) put.server got (sym (ap (λ (l : FtpLink). l.server.files) closed.is)) (sym (ap (λ (l : FtpLink). l.server.sessions) closed.is)) after;
}

pub fetched : (from : Stream) (name bytes : List ℕ) (c : TransferState) (s : FilesState) → CanFetch from name bytes c s
    → (ds : List Delivery) → IsEnough bytes ds → Fetched bytes s (carried_out from ds (fetch_order name) c s)
fetched from name bytes c s can ds enough =
    let first = opens_first s can.opens.session in
    let reads : CanRead (storage_of s) name bytes first.number = record { inside = first.inside; unused = first.unused; fits = can.fits; there = can.there } in
    let closed = fetches from name bytes (storage_of s) first.number reads (accepted_fetch c.operation name can.opens.accepted) first.free c.last s.exchanges Quiet (record { room = can.opens.stream; other = can.opens.fresh }) ds enough.few enough.arrive in
    is_fetched from bytes (storage_of s) s (carried_out from ds (fetch_order name) c s) refl refl closed

-- the get after a put that is done
got_after : (from : Stream) (name bytes : List ℕ) (st : Storage) (number : ℕ) → CanRead st name bytes number
    → is_file_name name ≡ true → free_session st.sessions ≡ Some number
    → (put : FtpLink) → Closed from st (Done []) put → (ds : List Delivery) → IsEnough bytes ds
    → Closed from st (Done bytes) (carried_out from ds (fetch_order name) put.client put.server)
got_after from name bytes st number can valid free put closed ds enough =
    let after = fetches from name bytes st number can valid free (Some closed.seq) closed.exchanges Quiet (closed.fresh (begun Opening name []) (omega arith)) ds enough.few enough.arrive in
    subst (λ (l : FtpLink). Closed from st (Done bytes) (carried_out from ds (fetch_order name) l.client l.server)) (sym closed.is) after

pub stored_and_fetched : (from : Stream) (name bytes : List ℕ) (c : TransferState) (s : FilesState) → CanStore from name bytes c s
    → (puts gets : List Delivery) → IsEnough bytes puts → IsEnough bytes gets
    → StoredAndFetched name bytes s (carried_out from puts (store_order name bytes) c s)
    (carried_out from gets (fetch_order name) (carried_out from puts (store_order name bytes) c s).client (carried_out from puts (store_order name bytes) c s).server)
stored_and_fetched from name bytes c s can puts gets enough_put enough_got =
    let good = accepted_store c.operation name bytes can.opens.accepted in
    let first = opens_first s can.opens.session in
    let st : Storage = storage_of s in
    let with_it : Storage = with_file st name bytes in
    let fits : length bytes ≤ most_file = grind (arith, good.1) in
    let absent = no_file s.files name can.absent (file_at s.files name) refl in
    let has : HasRoom st name bytes first.number = record { inside = first.inside; unused = first.unused; fits = fits; absent = absent; room = can.room } in
    let put : FtpLink = carried_out from puts (store_order name bytes) c s in
    let got : FtpLink = carried_out from gets (fetch_order name) put.client put.server in
    let closed = stores from name bytes st first.number has good.0 first.free c.last s.exchanges Quiet (record { room = can.opens.stream; other = can.opens.fresh }) puts enough_put.few (omega (arith, enough_put.arrive)) in
    let reads : CanRead with_it name bytes first.number = record { inside = first.inside; unused = first.unused; fits = fits; there = file_found s.files name bytes absent } in
    let after = got_after from name bytes with_it first.number reads good.0 first.free put closed gets enough_got in
    both_ends from name bytes s put got good.0 closed after
