-- The drone's side of file transfer.
use Rattle.std.specs.Prelude.{ℕ, if◌then◌else◌, List, [], ◌∷◌, Option, Some, None}
use Rattle.mav_names.specs.declared.names.Stream.{Stream}
use Rattle.mav_ftp.specs.declared.exchanges.Exchange.{Exchange}
use Rattle.mav_ftp.specs.Payload.{fail, fields_of, sized_data}
use Rattle.mav_ftp.specs.Replies.{nak_of}
use Rattle.mav_ftp.specs.Files.{File, bytes_named}
use Rattle.mav_ftp.specs.Sessions.{Session}
use Rattle.mav_ftp.specs.Exchanges.{kept_reply, is_full_for, with_exchange}
use Rattle.mav_ftp.specs.Steps.{Storage, Served, storage_step}

-- the files in the order in which they were made, the sessions 0 to 3, and for each stream its last request and reply
pub record FilesState : Type 0 where
  pub files : List File
  pub sessions : List (Option Session)
  pub exchanges : List Exchange

abbrev pub no_sessions : List (Option Session)
no_sessions = None ∷ None ∷ None ∷ None ∷ []

abbrev pub no_files : FilesState
no_files = record { files = []; sessions = no_sessions; exchanges = [] }

-- the bytes of the file of a name
abbrev pub file_named : FilesState → List ℕ → Option (List ℕ)
file_named st name = bytes_named st.files name

abbrev pub storage_of : FilesState → Storage
storage_of st = record { files = st.files; sessions = st.sessions }

abbrev pub served : FilesState → Stream → List ℕ → Served
served st from payload = storage_step (storage_of st) from (fields_of payload) (sized_data payload)

-- the reply to a request, and the state after it: one that is sent again gets the reply that is kept and changes
-- nothing, and of a new stream that can't be kept one is refused
abbrev pub new_reply : FilesState → Stream → List ℕ → List ℕ
new_reply st from payload =
    if is_full_for st.exchanges from then nak_of (fields_of payload) fail else (served st from payload).reply

abbrev pub reply_or : List ℕ → Option (List ℕ) → List ℕ
reply_or new None = new
reply_or new (Some kept) = kept

abbrev pub reply_to : FilesState → Stream → List ℕ → List ℕ
reply_to st from payload = reply_or (new_reply st from payload) (kept_reply st.exchanges from payload)

abbrev pub kept_after : FilesState → Stream → List ℕ → Served → FilesState
kept_after st from payload s = record {
  files = s.storage.files;
  sessions = s.storage.sessions;
  exchanges = with_exchange st.exchanges (record { stream = from; request = payload; reply = s.reply });
}

abbrev pub new_state : FilesState → Stream → List ℕ → FilesState
new_state st from payload = if is_full_for st.exchanges from then st
    else kept_after st from payload (served st from payload)

abbrev pub state_unless : FilesState → FilesState → Option (List ℕ) → FilesState
state_unless st new None = new
state_unless st new (Some kept) = st

abbrev pub files_after : FilesState → Stream → List ℕ → FilesState
files_after st from payload = state_unless st (new_state st from payload) (kept_reply st.exchanges from payload)
