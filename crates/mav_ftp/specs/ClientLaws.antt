-- A client and the server that answers its requests in order.
use Rattle.std.specs.Prelude.{◌≡◌, ℕ, ◌+◌, ◌<◌, ◌≤◌, if◌then◌else◌, true, false, List, [], ◌∷◌, ◌++◌, length, is_some}
use Rattle.std.specs.Prelude.{Some, None}
use Rattle.mav_names.specs.declared.names.Stream.{Stream}
use Rattle.mav_ftp.specs.declared.client.ends.FtpStep.{FtpStep}
use Rattle.mav_ftp.specs.declared.client.ends.FtpStep.TheVariants.{Quiet, Done}
use Rattle.mav_ftp.specs.Payload.{most_file}
use Rattle.mav_ftp.specs.Client.{TransferState, FileOrder, fetch_order, store_order, order_fault, ordered, request_of}
use Rattle.mav_ftp.specs.Client.{transfer_step, step_answer, transfer_tick, idle_limit}
use Rattle.mav_ftp.specs.Files.{most_files}
use Rattle.mav_ftp.specs.Sessions.{free_session}
use Rattle.mav_ftp.specs.Exchanges.{kept_reply, is_full_for}
use Rattle.mav_ftp.specs.Server.{FilesState, file_named, reply_to, files_after}

-- both ends, and what the last reply made of the operation
pub record FtpLink : Type 0 where
  pub client : TransferState
  pub server : FilesState
  pub answer : FtpStep

-- the server answers the request that waits, and the client takes the reply
abbrev pub answered : Stream → FtpLink → FtpLink
answered from l = record {
  client = transfer_step l.client (reply_to l.server from (request_of l.client));
  server = files_after l.server from (request_of l.client);
  answer = step_answer l.client (reply_to l.server from (request_of l.client));
}

-- what becomes of a request: it is answered, or it or its reply is lost, and a tick passes
pub data Delivery : Type 0 where
  Both_arrive : Delivery
  Reply_lost : Delivery
  Request_lost : Delivery

abbrev pub delivered : Stream → Delivery → FtpLink → FtpLink
delivered from Both_arrive l = answered from l
delivered from Reply_lost l = record l {
  client = transfer_tick l.client;
  server = files_after l.server from (request_of l.client);
}
delivered from Request_lost l = record l { client = transfer_tick l.client }

-- one delivery after another, until no operation is open
abbrev pub transferred : Stream → List Delivery → FtpLink → FtpLink
transferred from [] l = l
transferred from (d ∷ ds) l = if is_some l.client.operation then transferred from ds (delivered from d l) else l

-- an order, carried out
abbrev pub carried_out : Stream → List Delivery → FileOrder → TransferState → FilesState → FtpLink
carried_out from ds order c s = transferred from ds (record { client = ordered c order; server = s; answer = Quiet })

-- how many arrive, both ways
abbrev pub arrivals : List Delivery → ℕ
arrivals [] = 0
arrivals (Both_arrive ∷ ds) = arrivals ds + 1
arrivals (Reply_lost ∷ ds) = arrivals ds
arrivals (Request_lost ∷ ds) = arrivals ds

-- after so many losses in a row there are never as many as end an operation
abbrev pub LosesFew : ℕ → List Delivery → Type 0
LosesFew lost [] = Unit {0}
LosesFew lost (Both_arrive ∷ ds) = LosesFew 0 ds
LosesFew lost (Reply_lost ∷ ds) = (lost + 1 < idle_limit) × LosesFew (lost + 1) ds
LosesFew lost (Request_lost ∷ ds) = (lost + 1 < idle_limit) × LosesFew (lost + 1) ds

-- enough arrive for these bytes
pub record IsEnough (bytes : List ℕ) (ds : List Delivery) : Type 0 where
  pub few : LosesFew 0 ds
  pub arrive : length bytes + 3 ≤ arrivals ds

-- the stream may open a session, and its last request isn't the first of the operation
pub record CanOpen (from : Stream) (order : FileOrder) (c : TransferState) (s : FilesState) : Type 0 where
  pub accepted : order_fault c order ≡ None
  pub session : is_some (free_session s.sessions) ≡ true
  pub stream : is_full_for s.exchanges from ≡ false
  pub fresh : kept_reply s.exchanges from (request_of (ordered c order)) ≡ None

-- ---- a file is fetched

pub record CanFetch (from : Stream) (name bytes : List ℕ) (c : TransferState) (s : FilesState) : Type 0 where
  pub opens : CanOpen from (fetch_order name) c s
  pub there : file_named s name ≡ Some bytes
  pub fits : length bytes ≤ most_file

-- the fetch gives the file's bytes, and files and sessions are as before
pub record Fetched (bytes : List ℕ) (s : FilesState) (l : FtpLink) : Type 0 where
  pub answer : l.answer ≡ Done bytes
  pub files : l.server.files ≡ s.files
  pub sessions : l.server.sessions ≡ s.sessions

-- ---- a file is stored, and then fetched

pub record CanStore (from : Stream) (name bytes : List ℕ) (c : TransferState) (s : FilesState) : Type 0 where
  pub opens : CanOpen from (store_order name bytes) c s
  pub absent : file_named s name ≡ None
  pub room : length s.files < most_files

-- the store is done and leaves the file after the others, with sessions as before
pub record Stored (name bytes : List ℕ) (s : FilesState) (l : FtpLink) : Type 0 where
  pub answer : l.answer ≡ Done []
  pub files : l.server.files ≡ s.files ++ record { name = name; bytes = bytes } ∷ []
  pub sessions : l.server.sessions ≡ s.sessions

-- then the client accepts the fetch, which gives the bytes that were stored
pub record StoredAndFetched (name bytes : List ℕ) (s : FilesState) (put got : FtpLink) : Type 0 where
  pub stored : Stored name bytes s put
  pub accepted : order_fault put.client (fetch_order name) ≡ None
  pub fetched : Fetched bytes put.server got
