-- A request at a server: refused, or served and kept.
use Rattle.std.proofs.Common.{◌≡◌, ℕ, true, false, if◌then◌else◌, List, None, sym, ap, ◌∙◌}
use Rattle.mav_names.specs.declared.names.Stream.{Stream}
use Rattle.mav_ftp.specs.declared.payload.FtpFields.{FtpFields}
use Rattle.mav_ftp.specs.Payload.{fail, fields_of, sized_data}
use Rattle.mav_ftp.specs.Replies.{nak_of}
use Rattle.mav_ftp.specs.declared.exchanges.Exchange.{Exchange}
use Rattle.mav_ftp.specs.Exchanges.{kept_reply, is_full_for, with_exchange}
use Rattle.mav_ftp.specs.Steps.{Storage, Served, storage_step}
use Rattle.mav_ftp.specs.Server.{FilesState, storage_of, served, reply_to, new_reply, reply_or, files_after, kept_after, new_state, state_unless}

pub refused_reply : (st : FilesState) (from : Stream) (payload : List ℕ) → kept_reply st.exchanges from payload ≡ None → is_full_for st.exchanges from ≡ true
    → reply_to st from payload ≡ nak_of (fields_of payload) fail
refused_reply st from payload none full =
    ap (reply_or (new_reply st from payload)) none ∙ ap (λ t. if t then nak_of (fields_of payload) fail else (served st from payload).reply) full

-- the code's numbers and data are those of the payload
same_step : (st : FilesState) (from : Stream) (payload : List ℕ) (r : FtpFields) (bytes : List ℕ) → r ≡ fields_of payload → bytes ≡ sized_data payload
    → storage_step (storage_of st) from r bytes ≡ served st from payload
same_step st from payload r bytes numbers sized =
    ap (λ x. storage_step (storage_of st) from x bytes) numbers ∙ ap (storage_step (storage_of st) from (fields_of payload)) sized

pub served_reply : (st : FilesState) (from : Stream) (payload : List ℕ) (r : FtpFields) (bytes reply : List ℕ) → kept_reply st.exchanges from payload ≡ None
    → is_full_for st.exchanges from ≡ false → r ≡ fields_of payload → bytes ≡ sized_data payload → reply ≡ (storage_step (storage_of st) from r bytes).reply
    → reply ≡ reply_to st from payload
served_reply st from payload r bytes reply none room numbers sized is =
    is ∙ (ap (λ (s : Served). s.reply) (same_step st from payload r bytes numbers sized)
    ∙ sym (ap (reply_or (new_reply st from payload)) none ∙ ap (λ t. if t then nak_of (fields_of payload) fail else (served st from payload).reply) room))

abbrev state_with : List Exchange → Storage → FilesState
state_with exchanges storage = record { files = storage.files; sessions = storage.sessions; exchanges = exchanges }

pub served_state : (st : FilesState) (from : Stream) (payload : List ℕ) (r : FtpFields) (bytes reply : List ℕ) (storage : Storage) (exchanges : List Exchange)
    → kept_reply st.exchanges from payload ≡ None → is_full_for st.exchanges from ≡ false → r ≡ fields_of payload → bytes ≡ sized_data payload
    → reply ≡ (storage_step (storage_of st) from r bytes).reply → storage ≡ (storage_step (storage_of st) from r bytes).storage
    → exchanges ≡ with_exchange st.exchanges (record { stream = from; request = payload; reply = reply })
    → record { files = storage.files; sessions = storage.sessions; exchanges = exchanges } ≡ files_after st from payload
served_state st from payload r bytes reply storage exchanges none room numbers sized is-reply is-storage is-exchanges =
    let same : storage_step (storage_of st) from r bytes ≡ served st from payload = same_step st from payload r bytes numbers sized in
    let stored : storage ≡ (served st from payload).storage = is-storage ∙ ap (λ (s : Served). s.storage) same in
    let answered : reply ≡ (served st from payload).reply = is-reply ∙ ap (λ (s : Served). s.reply) same in
    let kept : exchanges ≡ with_exchange st.exchanges (record { stream = from; request = payload; reply = (served st from payload).reply }) =
    is-exchanges ∙ ap (λ (x : List ℕ). with_exchange st.exchanges (record { stream = from; request = payload; reply = x })) answered in
    let first : record { files = storage.files; sessions = storage.sessions; exchanges = exchanges } ≡ kept_after st from payload (served st from payload) =
    ap (state_with exchanges) stored ∙ ap (λ x. state_with x (served st from payload).storage) kept in
    first
    ∙ sym (ap (state_unless st (new_state st from payload)) none ∙ ap (λ t. if t then st else kept_after st from payload (served st from payload)) room)
