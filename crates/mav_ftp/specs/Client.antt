-- The station's side of file transfer: one list, fetch, store or removal at a time, and one request that waits for its
-- reply (MAVLink guide, File Transfer Protocol: reading, uploading, listing and removing files, timeouts).
use Rattle.std.specs.Prelude.{ℕ, ◌+◌, ◌==◌, ◌||◌, ◌&&◌, nat_le, nat_lt, Bool, if◌then◌else◌, List, [], ◌++◌, length}
use Rattle.std.specs.Prelude.{take, drop, count_by, slice_index, Option, Some, None}
use Rattle.mav_ftp.specs.declared.payload.FtpFields.{FtpFields}
use Rattle.mav_ftp.specs.declared.client.ends.FtpStep.{FtpStep}
use Rattle.mav_ftp.specs.declared.client.ends.FtpStep.TheVariants.{Quiet, Send, Done, Refused}
use Rattle.mav_ftp.specs.declared.client.ends.FtpTick.{FtpTick}
use Rattle.mav_ftp.specs.declared.client.ends.FtpTick.TheVariants.{Quiet as Quiet_tick, Again, NoAnswer}
use Rattle.mav_ftp.specs.declared.client.faults.FtpFault.{FtpFault}
use Rattle.mav_ftp.specs.declared.client.faults.FtpFault.TheVariants.{Busy, BadName, TooLarge}
use Rattle.mav_ftp.specs.Replies.{next_seq}
use Rattle.mav_ftp.specs.Payload.{most_data, most_file, terminate_session, list_directory, open_file_ro, read_file}
use Rattle.mav_ftp.specs.Payload.{create_file, write_file, remove_file, ack, nak, end_of_file, fields_of, sized_data}
use Rattle.mav_ftp.specs.Payload.{ftp_payload, is_file_name}

-- the request that waits
pub data FilePhase : Type 0 where
  Listing : FilePhase  -- ListDirectory
  Opening : FilePhase  -- a fetch: OpenFileRO, then ReadFile, then TerminateSession
  Reading : FilePhase
  Closing : FilePhase
  Creating : FilePhase  -- a store: CreateFile, then WriteFile, then TerminateSession
  Writing : FilePhase
  Committing : FilePhase
  Removing : FilePhase  -- RemoveFile

pub record Transfer : Type 0 where
  pub phase : FilePhase
  pub name : List ℕ  -- as long as it is asked for
  pub bytes : List ℕ  -- of a list and a fetch those taken so far, of a store those that the file gets
  pub session : ℕ  -- the one that was opened
  pub written : ℕ  -- of a store: how many of its bytes were acknowledged
  pub idle : ℕ  -- ticks since the request was sent first

pub record TransferState : Type 0 where
  pub last : Option ℕ  -- the seq of the last reply that was taken
  pub operation : Option Transfer

abbrev pub no_transfer : TransferState
no_transfer = record { last = None; operation = None }

-- ticks in a row after which an operation is given up
abbrev pub idle_limit : ℕ
idle_limit = 5

-- an offset has 32 bits
abbrev pub most_taken : ℕ
most_taken = 4294967295

-- ---- requests

abbrev pub opcode_of : FilePhase → ℕ
opcode_of Listing = list_directory
opcode_of Opening = open_file_ro
opcode_of Reading = read_file
opcode_of Closing = terminate_session
opcode_of Creating = create_file
opcode_of Writing = write_file
opcode_of Committing = terminate_session
opcode_of Removing = remove_file

abbrev pub request_seq : Option ℕ → ℕ
request_seq None = 0
request_seq (Some seq) = next_seq seq

-- the next bytes of a store, as many as one WriteFile holds
abbrev pub next_piece : Transfer → List ℕ
next_piece t = take most_data (drop t.written t.bytes)

-- a zero byte ends each entry of a list
abbrev pub entries_in : List ℕ → ℕ
entries_in bytes = count_by (λ b. b == 0) bytes

abbrev pub offset_of : Transfer → FilePhase → ℕ
offset_of t Listing = entries_in t.bytes
offset_of t Reading = length t.bytes
offset_of t Writing = t.written
offset_of t _ = 0

abbrev pub request_data : Transfer → FilePhase → List ℕ
request_data t Opening = t.name
request_data t Creating = t.name
request_data t Removing = t.name
request_data t Writing = next_piece t
request_data t _ = []

-- ReadFile asks for so many bytes, the others have so many
abbrev pub request_size : Transfer → FilePhase → ℕ
request_size t Reading = most_data
request_size t phase = length (request_data t phase)

abbrev pub request_fields : ℕ → Transfer → FtpFields
request_fields seq t = record {
  seq = seq;
  session = t.session;
  opcode = opcode_of t.phase;
  size = request_size t t.phase;
  req_opcode = 0;
  offset = offset_of t t.phase;
}

abbrev pub transfer_request : ℕ → Transfer → List ℕ
transfer_request seq t = ftp_payload (request_fields seq t) (request_data t t.phase)

-- what an open operation asks, and nothing if none is open
abbrev pub waiting_request : ℕ → Option Transfer → List ℕ
waiting_request seq None = []
waiting_request seq (Some t) = transfer_request seq t

abbrev pub request_of : TransferState → List ℕ
request_of s = waiting_request (request_seq s.last) s.operation

-- ---- an operation begins; none does while one is open

pub data FileOrder : Type 0 where
  list_order : FileOrder
  fetch_order : (name : List ℕ) → FileOrder
  store_order : (name bytes : List ℕ) → FileOrder
  remove_order : (name : List ℕ) → FileOrder

abbrev pub begun : FilePhase → List ℕ → List ℕ → Transfer
begun phase name bytes = record { phase = phase; name = name; bytes = bytes; session = 0; written = 0; idle = 0 }

abbrev pub first_transfer : FileOrder → Transfer
first_transfer list_order = begun Listing [] []
first_transfer (fetch_order name) = begun Opening name []
first_transfer (store_order name bytes) = begun Creating name bytes
first_transfer (remove_order name) = begun Removing name []

abbrev pub ordered : TransferState → FileOrder → TransferState
ordered s order = record s { operation = Some (first_transfer order) }

abbrev pub name_fault : List ℕ → Option FtpFault
name_fault name = if is_file_name name then None else Some BadName

abbrev pub store_fault : List ℕ → List ℕ → Option FtpFault
store_fault name bytes =
    if is_file_name name then (if nat_le (length bytes) most_file then None else Some (TooLarge (length bytes)))
    else Some BadName

abbrev pub free_fault : FileOrder → Option FtpFault
free_fault list_order = None
free_fault (fetch_order name) = name_fault name
free_fault (store_order name bytes) = store_fault name bytes
free_fault (remove_order name) = name_fault name

abbrev pub fault_with : Option Transfer → FileOrder → Option FtpFault
fault_with None order = free_fault order
fault_with (Some t) order = Some Busy

-- the first that applies
abbrev pub order_fault : TransferState → FileOrder → Option FtpFault
order_fault s order = fault_with s.operation order

-- ---- replies

-- the least size: a NAK, and an ACK of ListDirectory or ReadFile, has data
abbrev pub least_size : FilePhase → Bool → ℕ
least_size Listing acknowledges = 1
least_size Reading acknowledges = 1
least_size phase acknowledges = if acknowledges then 0 else 1

abbrev pub is_sized : Transfer → FtpFields → Bool
is_sized t f =
    nat_le (least_size t.phase (f.opcode == ack)) f.size
    && (nat_le f.size most_data && nat_le (length t.bytes + f.size) most_taken)

-- the reply to the request that waits, which has this seq
abbrev pub is_reply : ℕ → Transfer → FtpFields → Bool
is_reply seq t f =
    (f.seq == next_seq seq) && ((f.req_opcode == opcode_of t.phase)
    && (((f.opcode == ack) || (f.opcode == nak)) && is_sized t f))

-- what a reply makes of an operation
pub data Course : Type 0 where
  Goes_on : (t : Transfer) → Course
  Is_done : (bytes : List ℕ) → Course
  Is_refused : (code : ℕ) → Course

-- in the session that the reply names; the name isn't asked for any more
abbrev pub opened : Transfer → FilePhase → ℕ → Transfer
opened t phase session = record t { phase = phase; name = []; session = session; idle = 0 }

abbrev pub more_taken : Transfer → List ℕ → Transfer
more_taken t given = record t { bytes = t.bytes ++ given; idle = 0 }

-- what is left of a store is written; TerminateSession ends it if nothing is
abbrev pub next_write : Transfer → Transfer
next_write t =
    if nat_lt t.written (length t.bytes) then record t { phase = Writing; idle = 0 }
    else record t { phase = Committing; idle = 0 }

abbrev pub acknowledged : Transfer → FilePhase → ℕ → List ℕ → Course
acknowledged t Listing session given = Goes_on (more_taken t given)
acknowledged t Opening session given = Goes_on (opened t Reading session)
acknowledged t Reading session given = Goes_on (more_taken t given)
acknowledged t Closing session given = Is_done t.bytes
acknowledged t Creating session given = Goes_on (next_write (opened t Writing session))
acknowledged t Writing session given = Goes_on (next_write (record t { written = t.written + length (next_piece t) }))
acknowledged t Committing session given = Is_done []
acknowledged t Removing session given = Is_done []

-- error 6 ends a list, and the reading of a fetch, whose session is then terminated. However that is answered it is
-- done
abbrev pub denied : Transfer → FilePhase → ℕ → Course
denied t Listing code = if code == end_of_file then Is_done t.bytes else Is_refused code
denied t Reading code = if code == end_of_file then Goes_on (record t { phase = Closing; idle = 0 })
    else Is_refused code
denied t Closing code = Is_done t.bytes
denied t phase code = Is_refused code

abbrev pub replied : Transfer → FtpFields → List ℕ → Course
replied t f given = if f.opcode == ack then acknowledged t t.phase f.session given
    else denied t t.phase (slice_index given 0)

-- ---- a step

pub record FileStep : Type 0 where
  pub state : TransferState
  pub answer : FtpStep

abbrev pub after_course : ℕ → Course → FileStep
after_course seq (Goes_on t) = record {
  state = record { last = Some seq; operation = Some t };
  answer = Send (transfer_request (next_seq seq) t);
}
after_course seq (Is_done bytes) = record { state = record { last = Some seq; operation = None }; answer = Done bytes }
after_course seq (Is_refused code) = record {
  state = record { last = Some seq; operation = None };
  answer = Refused code;
}

abbrev pub heard : TransferState → Option Transfer → List ℕ → FileStep
heard s None p = record { state = s; answer = Quiet }
heard s (Some t) p =
    if is_reply (request_seq s.last) t (fields_of p)
    then after_course (fields_of p).seq (replied t (fields_of p) (sized_data p))
    else record { state = s; answer = Quiet }

-- a payload comes
abbrev pub transfer_step : TransferState → List ℕ → TransferState
transfer_step s p = (heard s s.operation p).state

abbrev pub step_answer : TransferState → List ℕ → FtpStep
step_answer s p = (heard s s.operation p).answer

-- ---- a tick: the request is sent again, and the operation ends at the fifth in a row

abbrev pub after_tick : Option Transfer → Option Transfer
after_tick None = None
after_tick (Some t) = if nat_lt (t.idle + 1) idle_limit then Some (record t { idle = t.idle + 1 }) else None

abbrev pub transfer_tick : TransferState → TransferState
transfer_tick s = record s { operation = after_tick s.operation }

abbrev pub tick_of : ℕ → Option Transfer → FtpTick
tick_of seq None = Quiet_tick
tick_of seq (Some t) = if nat_lt (t.idle + 1) idle_limit then Again (transfer_request seq t) else NoAnswer idle_limit

abbrev pub tick_answer : TransferState → FtpTick
tick_answer s = tick_of (request_seq s.last) s.operation
