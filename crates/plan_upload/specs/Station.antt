-- The station's side of the mission protocol: what a station does at its calls, at a plan message of the
-- drone that its operation is with, and at a tick.
-- MAVLink guide, Mission Protocol: upload, download, clear, cancel. The resynchronisation before an
-- operation, and after one that didn't end with the acknowledgement of its own last item, is this project's
-- profile: a PING with a number never used before, its reply, one cancel and its reply.
use Rattle.std.specs.Prelude.{ℕ, ◌+◌, ◌==◌, Bool, true, false, if◌then◌else◌, ◌||◌, ◌&&◌, nat_lt, List, [], ◌∷◌, ◌++◌}
use Rattle.std.specs.Prelude.{length, take, slice_get, Option, Some, None}
use Rattle.mav_names.specs.declared.names.Name.{Name}
use Rattle.mav_names.specs.declared.names.Stream.{Stream}
use Rattle.plan_items.specs.declared.items.Item.{Item}
use Rattle.plan_items.specs.declared.messages.PlanMsg.{PlanMsg}
use Rattle.plan_items.specs.declared.messages.PlanMsg.TheVariants.{Count, Request, Item as Give, Ack, List as Listing}
use Rattle.plan_items.specs.declared.messages.PlanMsg.TheVariants.{Clear, Ping}
use Rattle.plan_items.specs.Kinds.{limit_of}
use Rattle.plan_upload.specs.Addresses.{same_stream, same_name, node_of, everyone}
use Rattle.plan_upload.specs.Drone.{idle_limit}

pub data Work : Type 0 where
  Uploads : Work
  Clears : Work
  Gets : Work

pub data Phase : Type 0 where
  Pinging : Phase  -- 1: a PING was sent, and the station waits for its reply
  Cancelling : Phase  -- 2: a cancel was sent, and the station waits for its reply
  Sending : Phase  -- 3: an upload
  Clearing : Phase  -- 4: a clear
  Listing_items : Phase  -- 5: a download that waits for its count
  Getting : Phase  -- 6: a download

pub record Operation : Type 0 where
  pub work : Work
  pub drone : Stream
  pub kind : ℕ  -- 255 in a clear of all kinds
  pub plan : List Item  -- of an upload
  pub phase : Phase
  pub idle : ℕ  -- ticks since the last message that counted, in the phases 3 to 6
  pub terminating : Bool  -- it ends at the next resynchronisation
  pub asked : Bool  -- of an upload: a request came
  pub final_sent : Bool  -- of an upload: its last item was sent
  pub code : Option ℕ  -- of an upload: the code that it was refused with
  pub number : Option ℕ  -- the PING of this resynchronisation attempt, in the phases 1 and 2
  pub total : ℕ  -- of a download: how many items there are, and those gathered so far
  pub got : List Item

-- what an operation ended with
pub data Told : Type 0 where
  Told_installed : Told
  Told_not_installed : (code : ℕ) → Told
  Told_unknown : Told
  Told_cleared : Told
  Told_got : (items : List Item) → Told
  Told_ended : (code : ℕ) → Told

pub record StationState : Type 0 where
  pub me : Name
  pub boot : ℕ
  pub pings : ℕ  -- the last PING number that was used
  pub synced : List Stream  -- the drones with which it is synchronised, the longest kept last
  pub operation : Option Operation
  pub outcome : Option Told  -- one that wasn't returned yet

pub record StationStep : Type 0 where
  pub station : StationState
  pub answer : Option PlanMsg
  pub told : Option Told  -- the outcome that was reached in this step

-- a station at its start
abbrev pub fresh_station : ℕ → ℕ → ℕ → ℕ → StationState
fresh_station sys comp boot pings = record {
  me = record { sys = sys; comp = comp };
  boot = boot;
  pings = pings;
  synced = [];
  operation = None;
  outcome = None;
}

abbrev pub most_synced : ℕ
most_synced = 256

abbrev pub last_ping : ℕ
last_ping = 4294967295

abbrev pub phase_number : Phase → ℕ
phase_number Pinging = 1
phase_number Cancelling = 2
phase_number Sending = 3
phase_number Clearing = 4
phase_number Listing_items = 5
phase_number Getting = 6

abbrev pub stays : StationState → StationStep
stays s = record { station = s; answer = None; told = None }

abbrev pub with_operation : StationState → Operation → StationState
with_operation s o = record s { operation = Some o }

-- the operation continues as `o`, and sends nothing
abbrev pub becomes : StationState → Operation → StationStep
becomes s o = record { station = with_operation s o; answer = None; told = None }

-- the operation continues as `o`, and sends a message
abbrev pub sends : StationState → Operation → PlanMsg → StationStep
sends s o m = record { station = with_operation s o; answer = Some m; told = None }

-- the operation in a resynchronisation attempt with this PING
abbrev pub pinging : Operation → Option ℕ → Operation
pinging o number = record o { phase = Pinging; idle = 0; number = number; total = 0; got = [] }

-- a resynchronisation attempt. If no PING number is left nothing is sent, and no reply will count
abbrev pub resynchronises : StationState → Operation → StationStep
resynchronises s o =
    if nat_lt s.pings last_ping
    then sends (record s { pings = s.pings + 1 }) (pinging o (Some (s.pings + 1))) (Ping everyone s.boot (s.pings + 1))
    else becomes s (pinging o None)

abbrev pub first_phase : Work → Phase
first_phase Uploads = Sending
first_phase Clears = Clearing
first_phase Gets = Listing_items

abbrev pub first_message : Work → Stream → ℕ → List Item → PlanMsg
first_message Uploads drone kind plan = Count (node_of drone) (length plan) kind
first_message Clears drone kind plan = Clear (node_of drone) kind
first_message Gets drone kind plan = Listing (node_of drone) kind

-- a synchronised operation starts: MISSION_COUNT, MISSION_CLEAR_ALL or MISSION_REQUEST_LIST
abbrev pub starts : StationState → Operation → StationStep
starts s o =
    sends s (record o { phase = first_phase o.work; idle = 0; number = None; total = 0; got = [] })
    (first_message o.work o.drone o.kind o.plan)

abbrev pub is_synced : List Stream → Stream → Bool
is_synced [] drone = false
is_synced (d ∷ ds) drone = same_stream d drone || is_synced ds drone

-- one drone more, and the one kept longest is dropped if there are 256
abbrev pub synced_too : List Stream → Stream → List Stream
synced_too ds drone = if is_synced ds drone then ds else drone ∷ take 255 ds

abbrev pub synchronised : StationState → Stream → StationState
synchronised s drone = record s { synced = synced_too s.synced drone }

-- the operation with this drone ends with an outcome, and sends this. They are synchronised then
abbrev pub ends_with : StationState → Stream → Option PlanMsg → Told → StationStep
ends_with s drone answer told = record {
  station = record (synchronised s drone) { operation = None; outcome = Some told };
  answer = answer;
  told = Some told;
}

abbrev pub ends : StationState → Stream → Told → StationStep
ends s drone told = ends_with s drone None told

-- the code of an upload that isn't installed: OPERATION_CANCELLED if the drone gave none
abbrev pub given_code : Option ℕ → ℕ
given_code None = 15
given_code (Some code) = code

-- the outcome of a terminating operation, by the reply to its cancel
abbrev pub outcome_at : Work → Bool → ℕ → Option ℕ → Told
outcome_at Uploads final_sent code kept =
    if final_sent && (code == 0) then Told_installed
    else if final_sent && (code == 1) then Told_unknown
    else Told_not_installed (given_code kept)
outcome_at Clears final_sent code kept = Told_ended 15
outcome_at Gets final_sent code kept = Told_ended 15

-- the reply to the cancel came: the station is synchronised with the drone
abbrev pub synchronises : StationState → Operation → ℕ → StationStep
synchronises s o code =
    if o.terminating then ends s o.drone (outcome_at o.work o.final_sent code o.code)
    else starts (synchronised s o.drone) o

-- an upload is refused, or given up: the code is kept, and it ends at the next resynchronisation
abbrev pub refused : StationState → Operation → ℕ → StationStep
refused s o code = resynchronises s (record o { code = Some code; terminating = true })

abbrev pub terminated : StationState → Operation → StationStep
terminated s o = resynchronises s (record o { terminating = true })

-- phase 3, MISSION_REQUEST_INT of the kind: the item, if the plan has it
abbrev pub item_asked : StationState → Operation → ℕ → Option Item → StationStep
item_asked s o seq None = stays s
item_asked s o seq (Some item) =
    sends s (record o { asked = true; idle = 0; final_sent = o.final_sent || (seq + 1 == length o.plan) })
    (Give (node_of o.drone) seq o.kind item)

-- phase 3, MISSION_ACK
abbrev pub upload_acked : StationState → Operation → ℕ → StationStep
upload_acked s o code =
    if o.asked then
    (if code == 0 then (if o.final_sent then ends s o.drone Told_installed else stays s)
    else refused s o code)
    -- UNSUPPORTED, NO_SPACE, INVALID, DENIED: the count was refused
    else if (code == 3) || ((code == 4) || ((code == 5) || (code == 14))) then refused s o code
    else stays s

-- the download is whole
abbrev pub downloaded : StationState → Operation → List Item → StationStep
downloaded s o items = ends_with s o.drone (Some (Ack (node_of o.drone) 0 o.kind)) (Told_got items)

-- phase 5, MISSION_COUNT of the kind
abbrev pub counted : StationState → Operation → ℕ → StationStep
counted s o count =
    if count == 0 then downloaded s o []
    -- NO_SPACE
    else if nat_lt (limit_of o.kind) count then ends s o.drone (Told_ended 4)
    else sends s (record o { phase = Getting; idle = 0; total = count; got = [] }) (Request (node_of o.drone) 0 o.kind)

-- phase 6, the next item
abbrev pub item_got : StationState → Operation → List Item → StationStep
item_got s o items =
    if nat_lt (length items) o.total
    then sends s (record o { idle = 0; got = items }) (Request (node_of o.drone) (length items) o.kind)
    else downloaded s o items

-- a PING number is that of this attempt
abbrev pub is_number : Option ℕ → ℕ → Bool
is_number None seq = false
is_number (Some number) seq = number == seq

-- what counts in each phase; all else changes nothing
abbrev pub phase_step : StationState → Operation → Phase → PlanMsg → StationStep
-- the reply to this attempt's PING: a cancel is sent
phase_step s o Pinging (Ping to usec seq) =
    if (usec == s.boot) && is_number o.number seq
    then sends s (record o { phase = Cancelling }) (Ack (node_of o.drone) 15 o.kind)
    else stays s
phase_step s o Cancelling (Ack to code kind) =
    if (code == 0) || ((code == 1) || (code == 15)) then synchronises s o code else stays s
phase_step s o Sending (Request to seq kind) = if kind == o.kind then item_asked s o seq (slice_get o.plan seq)
    else stays s
phase_step s o Sending (Ack to code kind) = upload_acked s o code
phase_step s o Clearing (Ack to code kind) =
    if code == 0 then ends s o.drone Told_cleared
    -- UNSUPPORTED, DENIED
    else if (code == 3) || (code == 14) then ends s o.drone (Told_ended code)
    else stays s
phase_step s o Listing_items (Count to count kind) = if kind == o.kind then counted s o count else stays s
phase_step s o Listing_items (Ack to code kind) = if (code == 3) || (code == 14) then ends s o.drone (Told_ended code)
    else stays s
phase_step s o Getting (Give to seq kind item) =
    if (kind == o.kind) && (seq == length o.got) then item_got s o (o.got ++ item ∷ []) else stays s
phase_step s o Getting (Ack to code kind) = if code == 0 then stays s else ends s o.drone (Told_ended code)
phase_step s o phase m = stays s

-- who a plan message is for
abbrev pub addressee : PlanMsg → Name
addressee (Ping to usec seq) = to
addressee (Count to count kind) = to
addressee (Request to seq kind) = to
addressee (Give to seq kind item) = to
addressee (Ack to code kind) = to
addressee (Listing to kind) = to
addressee (Clear to kind) = to

abbrev pub operation_step : StationState → Option Operation → Stream → PlanMsg → StationStep
operation_step s None from m = stays s
operation_step s (Some o) from m =
    if same_stream from o.drone && same_name (addressee m) s.me then phase_step s o o.phase m else stays s

-- one plan message of a stream: it counts if it comes from the operation's drone and is for this station
abbrev pub station_step : StationState → Stream → PlanMsg → StationStep
station_step s from m = operation_step s s.operation from m

-- a tick, by the phase
abbrev pub idle_again : Operation → Operation
idle_again o = record o { idle = o.idle + 1 }

abbrev pub tries_again : StationState → Operation → Option PlanMsg → StationStep
tries_again s o answer = record { station = with_operation s (idle_again o); answer = answer; told = None }

abbrev pub is_patient : Operation → Bool
is_patient o = nat_lt (o.idle + 1) idle_limit

-- the same PING again
abbrev pub pinged : StationState → Option ℕ → StationStep
pinged s None = stays s
pinged s (Some number) = record { station = s; answer = Some (Ping everyone s.boot number); told = None }

abbrev pub phase_tick : StationState → Operation → Phase → StationStep
phase_tick s o Pinging = pinged s o.number
phase_tick s o Cancelling = resynchronises s o
phase_tick s o Sending =
    if is_patient o
    then tries_again s o (if o.asked then None else Some (Count (node_of o.drone) (length o.plan) o.kind))
    else terminated s o
phase_tick s o Clearing = if is_patient o then tries_again s o None else resynchronises s o
phase_tick s o Listing_items = if is_patient o then tries_again s o None else resynchronises s o
phase_tick s o Getting =
    if is_patient o then tries_again s o (Some (Request (node_of o.drone) (length o.got) o.kind))
    else resynchronises s o

abbrev pub operation_tick : StationState → Option Operation → StationStep
operation_tick s None = stays s
operation_tick s (Some o) = phase_tick s o o.phase

abbrev pub station_tick : StationState → StationStep
station_tick s = operation_tick s s.operation

-- a cancel of the station's own
abbrev pub phase_cancel : StationState → Operation → Phase → StationStep
phase_cancel s o Pinging = becomes s (record o { terminating = true })
phase_cancel s o Cancelling = becomes s (record o { terminating = true })
phase_cancel s o Sending = terminated s o
phase_cancel s o Clearing = terminated s o
phase_cancel s o Listing_items = terminated s o
phase_cancel s o Getting = terminated s o

abbrev pub operation_cancel : StationState → Option Operation → StationStep
operation_cancel s None = stays s
operation_cancel s (Some o) = if o.terminating then stays s else phase_cancel s o o.phase

abbrev pub station_cancel : StationState → StationStep
station_cancel s = operation_cancel s s.operation

-- a new operation
abbrev pub operation_of : Work → Stream → ℕ → List Item → Operation
operation_of work drone kind plan = record {
  work = work;
  drone = drone;
  kind = kind;
  plan = plan;
  phase = Pinging;
  idle = 0;
  terminating = false;
  asked = false;
  final_sent = false;
  code = None;
  number = None;
  total = 0;
  got = [];
}

-- it starts at once if the station is synchronised with the drone, and otherwise resynchronises.
-- An outcome that wasn't returned is dropped
abbrev pub begins : StationState → Operation → StationStep
begins s o =
    let ready = record s { outcome = None } in
    if is_synced s.synced o.drone then starts ready o else resynchronises ready o

abbrev pub begin_upload : StationState → Stream → ℕ → List Item → StationStep
begin_upload s drone kind plan = begins s (operation_of Uploads drone kind plan)

abbrev pub begin_clear : StationState → Stream → ℕ → StationStep
begin_clear s drone kind = begins s (operation_of Clears drone kind [])

abbrev pub begin_get : StationState → Stream → ℕ → StationStep
begin_get s drone kind = begins s (operation_of Gets drone kind [])

-- the outcome was returned
abbrev pub untold : StationState → StationState
untold s = record s { outcome = None }
