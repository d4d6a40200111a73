-- A server stays in range, and so do its replies.
use Rattle.std.proofs.Common.{◌≡◌, ◌<◌, ℕ, true, false, List, [], ◌∷◌, Option, Some, None, refl, sym, ◌∙◌, get_or, subst, arith, All, slice_index}
use Rattle.std.specs.Prelude.{IfSome, slice_get}
use Rattle.std.specs.Str.{bytes_eq}
use Rattle.std.specs.Cmp.Lexicographic.{bytes_decides}
use Rattle.std.proofs.lemmas.List.Quantifiers.{position-Some}
use Rattle.std.proofs.lemmas.List.Elements.{All-nil, All-cons, All-append, All-set, All-take, All-drop, All-get_or}
use Rattle.mav_names.specs.declared.names.Stream.{Stream}
use Rattle.mav_ftp.specs.declared.exchanges.Exchange.{Exchange}
use Rattle.mav_ftp.specs.Payload.{fail, fields_of, data_of, sized_data, is_file_name}
use Rattle.mav_ftp.specs.Files.{File, is_named, file_at, bytes_at}
use Rattle.mav_ftp.specs.Exchanges.{exchange_at, exchanged_at, same_request, reply_at, kept_reply, is_full_for}
use Rattle.mav_ftp.specs.Server.{FilesState, no_files, file_named, storage_of, served, reply_to, new_reply, reply_or, files_after, kept_after, new_state, state_unless}
use Rattle.mav_ftp.specs.Ranges.{PayloadInRange, FileInRange, SlotInRange, ExchangeInRange, FilesInRange}
use Rattle.mav_ftp.proofs.PayloadRanges.{by_test, fields_in_range, nak_in_range}
use Rattle.mav_ftp.proofs.StorageRanges.{ServedInRange, item_in_range, stepped}

abbrev is_byte : ℕ → Type 0
is_byte b = b < 256

pub none_at_first : FilesInRange no_files
none_at_first = record {
  few = omega arith;
  files = All-nil FileInRange;
  four = refl;
  sessions =
      All-cons SlotInRange None (None ∷ None ∷ None ∷ []) tt
      (All-cons SlotInRange None (None ∷ None ∷ []) tt (All-cons SlotInRange None (None ∷ []) tt (All-cons SlotInRange None [] tt (All-nil SlotInRange))));
  exchanges = All-nil ExchangeInRange;
}

-- the reply that is kept

same_in_range : (payload : List ℕ) (e : Exchange) → ExchangeInRange e → IfSome (same_request payload (Some e)) PayloadInRange
same_in_range payload e h = by_test (λ r. IfSome r PayloadInRange) (bytes_eq e.request payload) (Some e.reply) None (λ _. h) (λ _. tt)

at_in_range : (kept : List Exchange) (payload : List ℕ) (index : Option ℕ) → All ExchangeInRange kept → IfSome (reply_at kept payload index) PayloadInRange
at_in_range kept payload None h = tt
at_in_range kept payload (Some i) h =
    elim (slice_get kept i) as (λ found. slice_get kept i ≡ found → IfSome (same_request payload found) PayloadInRange) [
      | None ↦ λ e. tt
      | Some x ↦ λ e. same_in_range payload x (item_in_range ExchangeInRange kept i x h e)
    ] refl

exchanged_in_range : (kept : List Exchange) (e : Exchange) (index : Option ℕ) → All ExchangeInRange kept → ExchangeInRange e → All ExchangeInRange (exchanged_at kept e index)
exchanged_in_range kept e None h new = All-append ExchangeInRange kept (e ∷ []) h (All-cons ExchangeInRange e [] new (All-nil ExchangeInRange))
exchanged_in_range kept e (Some i) h new = All-set ExchangeInRange kept i e new h

-- a new request

step_in_range : (st : FilesState) (from : Stream) (payload : List ℕ) → FilesInRange st → PayloadInRange payload → ServedInRange (served st from payload)
step_in_range st from payload h p =
    stepped (storage_of st) from (fields_of payload) (sized_data payload) (record { few = h.few; files = h.files; four = h.four; sessions = h.sessions })
    (fields_in_range payload p) (All-take is_byte (slice_index payload 4) (data_of payload) (All-drop is_byte 12 payload p.bytes))

kept_in_range : (st : FilesState) (from : Stream) (payload : List ℕ) → FilesInRange st → ServedInRange (served st from payload)
    → FilesInRange (kept_after st from payload (served st from payload))
kept_in_range st from payload h s =
    let e : Exchange = record { stream = from; request = payload; reply = (served st from payload).reply } in
    record {
      few = s.storage.few;
      files = s.storage.files;
      four = s.storage.four;
      sessions = s.storage.sessions;
      exchanges = exchanged_in_range st.exchanges e (exchange_at st.exchanges from) h.exchanges s.reply;
    }

reply_else : (new : List ℕ) (kept : Option (List ℕ)) → PayloadInRange new → IfSome kept PayloadInRange → PayloadInRange (reply_or new kept)
reply_else new None h k = h
reply_else new (Some reply) h k = k

pub reply_in_range : (st : FilesState) (from : Stream) (payload : List ℕ) → FilesInRange st → PayloadInRange payload → PayloadInRange (reply_to st from payload)
reply_in_range st from payload h p =
    reply_else (new_reply st from payload) (kept_reply st.exchanges from payload)
    (by_test PayloadInRange (is_full_for st.exchanges from) _ _ (λ _. nak_in_range (fields_of payload) fail (fields_in_range payload p) (omega arith))
    (λ _. (step_in_range st from payload h p).reply)) (at_in_range st.exchanges payload (exchange_at st.exchanges from) h.exchanges)

unless : (st new : FilesState) (kept : Option (List ℕ)) → FilesInRange st → FilesInRange new → FilesInRange (state_unless st new kept)
unless st new None h n = n
unless st new (Some reply) h n = h

pub after_in_range : (st : FilesState) (from : Stream) (payload : List ℕ) → FilesInRange st → PayloadInRange payload → FilesInRange (files_after st from payload)
after_in_range st from payload h p =
    unless st (new_state st from payload) (kept_reply st.exchanges from payload) h
    (by_test FilesInRange (is_full_for st.exchanges from) _ _ (λ _. h) (λ _. kept_in_range st from payload h (step_in_range st from payload h p)))

-- bytes that can't be a name

named_so : (files : List File) (name : List ℕ) (i : ℕ) → All FileInRange files → file_at files name ≡ Some i → is_file_name name ≡ true
named_so files name i h some =
    let d : File = record { name = name; bytes = [] } in
    let at = position-Some (is_named name) files i d some in
    let f = get_or files i d in
    let same : f.name ≡ name = (bytes_decides f.name name).0 at.1 in
    subst (λ n. is_file_name n ≡ true) same (All-get_or FileInRange files i d at.0 h).name

pub no_such_name : (st : FilesState) → FilesInRange st → (name : List ℕ) → is_file_name name ≡ false → file_named st name ≡ None
no_such_name st h name none =
    elim (file_at st.files name) as (λ at. file_at st.files name ≡ at → bytes_at st.files at ≡ None) [
      | None ↦ λ e. refl
      | Some i ↦ λ e. absurd (let no = sym (named_so st.files name i h.files e) ∙ none in cc)
    ] refl
