-- The drone's side of the mission protocol: what a drone does at a plan message of a stream, and at a tick.
-- MAVLink guide, Mission Protocol: upload, download, clear. That a count of 0 is refused, and the reply
-- to a cancel, are this project's profile.
use Rattle.std.specs.Prelude.{ℕ, ◌+◌, ◌-◌, ◌^◌, ◌==◌, Bool, true, false, if◌then◌else◌, ◌&&◌, not, nat_lt, min}
use Rattle.std.specs.Prelude.{is_some, List, [], ◌∷◌, ◌++◌, length, slice_get, Option, Some, None}
use Rattle.mav_names.specs.declared.names.Stream.{Stream}
use Rattle.plan_items.specs.declared.items.Item.{Item}
use Rattle.plan_items.specs.declared.faults.PlanFault.{PlanFault}
use Rattle.plan_items.specs.declared.messages.PlanMsg.{PlanMsg}
use Rattle.plan_items.specs.declared.messages.PlanMsg.TheVariants.{Count, Request, Item as Give, Ack, List as Listing}
use Rattle.plan_items.specs.declared.messages.PlanMsg.TheVariants.{Clear, Ping}
use Rattle.plan_items.specs.Kinds.{limit_of}
use Rattle.plan_items.specs.Validation.{item_fault, plan_fault, code_of}
use Rattle.plan_upload.specs.Addresses.{same_stream, same_name, node_of, everyone, is_for_drone}
use Rattle.plan_upload.specs.Plans.{Plans, plan_at, with_plan, every_kind, without_plan}

-- the upload that is open: of a stream, with the items gathered so far and the ticks without one
pub record Upload : Type 0 where
  pub stream : Stream
  pub kind : ℕ
  pub total : ℕ
  pub items : List Item
  pub idle : ℕ

-- the download that is open: of a stream, over a copy of the plan
pub record Download : Type 0 where
  pub stream : Stream
  pub kind : ℕ
  pub items : List Item
  pub idle : ℕ

-- the last upload result of a stream: whether its upload was installed
pub record UploadResult : Type 0 where
  pub stream : Stream
  pub installed : Bool

pub record DroneState : Type 0 where
  pub sys : ℕ
  pub plans : Plans
  pub upload : Option Upload
  pub download : Option Download
  pub results : List UploadResult
  pub installs : ℕ

-- what happens to the plans in a step
pub data PlanEvent : Type 0 where
  Quiet : PlanEvent
  Installs : (by : Stream) (kind : ℕ) (items : List Item) → PlanEvent
  Empties : (by : Stream) (kind : ℕ) → PlanEvent
  -- a count of the plan was sent to a stream that asked for it
  Shows : (to : Stream) (kind : ℕ) (items : List Item) → PlanEvent

pub record DroneStep : Type 0 where
  pub drone : DroneState
  pub answer : Option PlanMsg
  pub event : PlanEvent

-- a drone at its start, and one that starts again with the plans that it kept
abbrev pub fresh_drone : ℕ → Plans → DroneState
fresh_drone sys plans = record { sys = sys; plans = plans; upload = None; download = None; results = []; installs = 0 }

abbrev pub restored : DroneState → DroneState
restored d = fresh_drone d.sys d.plans

-- the most streams that have a result, and the number of ticks after which a transfer is given up
abbrev pub most_results : ℕ
most_results = 256

abbrev pub idle_limit : ℕ
idle_limit = 5

-- a count of installs stays at the maximum of its type
abbrev pub one_more : ℕ → ℕ
one_more n = min (n + 1) (2 ^ 64 - 1)

-- it replies to the stream, and no plan is changed
abbrev pub answers : DroneState → PlanMsg → DroneStep
answers d m = record { drone = d; answer = Some m; event = Quiet }

abbrev pub rests : DroneState → DroneStep
rests d = record { drone = d; answer = None; event = Quiet }

abbrev pub ack : Stream → ℕ → ℕ → PlanMsg
ack s code kind = Ack (node_of s) code kind

abbrev pub ask : Stream → ℕ → ℕ → PlanMsg
ask s kind seq = Request (node_of s) seq kind

-- the last upload result of a stream, if it has one
abbrev pub result_of : List UploadResult → Stream → Option Bool
result_of [] s = None
result_of (r ∷ rs) s = if same_stream r.stream s then Some r.installed else result_of rs s

-- the results with that of one stream replaced, or added after the others
abbrev pub with_result : List UploadResult → Stream → Bool → List UploadResult
with_result [] s installed = record { stream = s; installed = installed } ∷ []
with_result (r ∷ rs) s installed =
    if same_stream r.stream s then record { stream = r.stream; installed = installed } ∷ rs
    else r ∷ with_result rs s installed

-- an upload of this stream is open; one of another stream is
abbrev pub is_own : Option Upload → Stream → Bool
is_own None s = false
is_own (Some u) s = same_stream u.stream s

abbrev pub is_other : Option Upload → Stream → Bool
is_other None s = false
is_other (Some u) s = not (same_stream u.stream s)

-- the stream's own upload is closed: what was gathered is dropped, and its result is "not installed"
abbrev pub closed : DroneState → Stream → DroneState
closed d s =
    if is_own d.upload s then record d { upload = None; results = with_result d.results s false } else d

-- an upload of the stream is opened, in place of its own earlier one
abbrev pub opened : DroneState → Stream → ℕ → ℕ → DroneState
opened d s kind count = record d {
  upload = Some (record { stream = s; kind = kind; total = count; items = []; idle = 0 });
  results = with_result d.results s false;
}

-- no result is kept for the stream, and no further one can be
abbrev pub has_no_room : DroneState → Stream → Bool
has_no_room d s = not (is_some (result_of d.results s)) && not (nat_lt (length d.results) most_results)

-- MISSION_COUNT
abbrev pub count_comes : DroneState → Stream → ℕ → ℕ → DroneStep
count_comes d s count kind =
    -- an unknown kind: UNSUPPORTED
    if nat_lt 2 kind then answers (closed d s) (ack s 3 kind)
    -- an upload of another stream is open: DENIED
    else if is_other d.upload s then answers d (ack s 14 kind)
    -- no item: INVALID
    else if count == 0 then answers (closed d s) (ack s 5 kind)
    -- more items than the kind has room for: NO_SPACE
    else if nat_lt (limit_of kind) count then answers (closed d s) (ack s 4 kind)
    -- 256 other streams have a result: DENIED
    else if has_no_room d s then answers d (ack s 14 kind)
    -- else an upload is opened, and the first item asked for
    else answers (opened d s kind count) (ask s kind 0)

-- the upload of the stream with one more item
abbrev pub gathered : DroneState → Upload → Item → DroneState
gathered d u item = record d { upload = Some (record u { items = u.items ++ item ∷ []; idle = 0 }) }

-- the gathered items become the plan of their kind
abbrev pub installed : DroneState → Stream → ℕ → List Item → DroneState
installed d s kind items = record d {
  plans = with_plan d.plans kind items;
  upload = None;
  results = with_result d.results s true;
  installs = one_more d.installs;
}

-- the last item of an upload. `keeps` says whether the store keeps the new plan
abbrev pub last_item : Bool → DroneState → Stream → ℕ → List Item → DroneStep
last_item keeps d s kind items =
    -- the whole plan has a fault: INVALID
    if is_some (plan_fault kind items) then answers (closed d s) (ack s 5 kind)
    -- else it is installed: ACCEPTED
    else if keeps then record {
      drone = installed d s kind items;
      answer = Some (ack s 0 kind);
      event = Installs s kind items;
    }
    -- it could not be kept: ERROR
    else answers (closed d s) (ack s 1 kind)

-- an item of the upload's kind and of the number that was asked for; `fault` is the item's own
abbrev pub item_fits : Bool → DroneState → Stream → Upload → Item → Option PlanFault → DroneStep
-- the item has a fault
item_fits keeps d s u item (Some fault) = answers (closed d s) (ack s (code_of fault) u.kind)
item_fits keeps d s u item None =
    -- it isn't the last: the next one is asked for
    if nat_lt (length u.items + 1) u.total then answers (gathered d u item) (ask s u.kind (length u.items + 1))
    else last_item keeps d s u.kind (u.items ++ item ∷ [])

-- MISSION_ITEM_INT
abbrev pub item_comes : Bool → DroneState → Stream → Option Upload → ℕ → ℕ → Item → DroneStep
item_comes keeps d s None seq kind item = rests d
item_comes keeps d s (Some u) seq kind item =
    -- no upload of the stream is open
    if not (same_stream u.stream s) then rests d
    -- another kind or number than was asked for: asked for again
    else if not ((kind == u.kind) && (seq == length u.items)) then answers d (ask s u.kind (length u.items))
    else item_fits keeps d s u item (item_fault u.kind item)

-- the stream's own download is closed
abbrev pub download_without : Option Download → Stream → Option Download
download_without None s = None
download_without (Some t) s = if same_stream t.stream s then None else Some t

abbrev pub undownloaded : DroneState → Stream → DroneState
undownloaded d s = record d { download = download_without d.download s }

-- the code of the reply to a cancel: ACCEPTED if the stream's last upload was installed,
-- OPERATION_CANCELLED if it was not, ERROR if there is none
abbrev pub cancel_code : Option Bool → ℕ
cancel_code None = 1
cancel_code (Some true) = 0
cancel_code (Some false) = 15

-- MISSION_ACK with OPERATION_CANCELLED
abbrev pub cancel_comes : DroneState → Stream → ℕ → DroneStep
cancel_comes d s kind =
    let after = closed (undownloaded d s) s in
    answers after (ack s (cancel_code (result_of after.results s)) kind)

-- MISSION_ACK
abbrev pub ack_comes : DroneState → Stream → ℕ → ℕ → DroneStep
ack_comes d s code kind = if code == 15 then cancel_comes d s kind else rests (undownloaded d s)

-- MISSION_CLEAR_ALL. `keeps` says whether the store keeps the new plans
abbrev pub clear_comes : Bool → DroneState → Stream → ℕ → DroneStep
clear_comes keeps d s kind =
    -- an unknown kind: UNSUPPORTED
    if nat_lt 2 kind && not (kind == every_kind) then answers d (ack s 3 kind)
    -- an upload of another stream is open: DENIED
    else if is_other d.upload s then answers d (ack s 14 kind)
    -- else the plan of the kind, or all three, are emptied: ACCEPTED
    else if keeps then record {
      drone = record (closed d s) { plans = without_plan d.plans kind };
      answer = Some (ack s 0 kind);
      event = Empties s kind;
    }
    -- it could not be kept: DENIED
    else answers d (ack s 14 kind)

-- a download of another stream is open
abbrev pub is_downloading : Option Download → Stream → Bool
is_downloading None s = false
is_downloading (Some t) s = not (same_stream t.stream s)

-- the copy that a download reads; an empty plan needs none
abbrev pub copy_of : Stream → ℕ → List Item → Option Download
copy_of s kind [] = None
copy_of s kind (item ∷ items) = Some (record { stream = s; kind = kind; items = item ∷ items; idle = 0 })

-- MISSION_REQUEST_LIST
abbrev pub list_comes : DroneState → Stream → ℕ → DroneStep
list_comes d s kind =
    -- an unknown kind: UNSUPPORTED
    if nat_lt 2 kind then answers d (ack s 3 kind)
    -- a download of another stream is open: DENIED
    else if is_downloading d.download s then answers d (ack s 14 kind)
    -- else the number of items, 0 if the plan is empty
    else record {
      drone = record d { download = copy_of s kind (plan_at d.plans kind) };
      answer = Some (Count (node_of s) (length (plan_at d.plans kind)) kind);
      event = Shows s kind (plan_at d.plans kind);
    }

-- the item that is asked for, if the copy has it; else INVALID_SEQUENCE
abbrev pub give_item : DroneState → Stream → Download → ℕ → ℕ → Option Item → DroneStep
give_item d s t seq kind None = answers d (ack s 13 kind)
give_item d s t seq kind (Some item) = answers (record d { download = Some (record t { idle = 0 }) })
    (Give (node_of s) seq kind item)

-- MISSION_REQUEST_INT
abbrev pub request_comes : DroneState → Stream → Option Download → ℕ → ℕ → DroneStep
request_comes d s None seq kind = answers d (ack s 13 kind)
request_comes d s (Some t) seq kind =
    if same_stream t.stream s && (t.kind == kind) then give_item d s t seq kind (slice_get t.items seq)
    else answers d (ack s 13 kind)

-- a message for another node changes nothing and gets no reply
abbrev pub heard : DroneState → Bool → DroneStep → DroneStep
heard d is_for step = if is_for then step else rests d

-- one plan message of a stream. `keeps` says whether the store keeps new plans
abbrev pub drone_step : Bool → DroneState → Stream → PlanMsg → DroneStep
drone_step keeps d s (Ping to usec seq) = heard d (same_name to everyone) (answers d (Ping (node_of s) usec seq))
drone_step keeps d s (Count to count kind) = heard d (is_for_drone d.sys to) (count_comes d s count kind)
drone_step keeps d s (Give to seq kind item) =
    heard d (is_for_drone d.sys to) (item_comes keeps d s d.upload seq kind item)
drone_step keeps d s (Ack to code kind) = heard d (is_for_drone d.sys to) (ack_comes d s code kind)
drone_step keeps d s (Clear to kind) = heard d (is_for_drone d.sys to) (clear_comes keeps d s kind)
drone_step keeps d s (Listing to kind) = heard d (is_for_drone d.sys to) (list_comes d s kind)
drone_step keeps d s (Request to seq kind) = heard d (is_for_drone d.sys to) (request_comes d s d.download seq kind)

-- a tick: the drone after it, and what it sends to which stream
pub record DroneTick : Type 0 where
  pub drone : DroneState
  pub answer : Option (Stream × PlanMsg)

-- a download that has been idle for too long is closed, and nothing is sent
abbrev pub waited : Option Download → Option Download
waited None = None
waited (Some t) = if nat_lt (t.idle + 1) idle_limit then Some (record t { idle = t.idle + 1 }) else None

-- an upload asks for its next item again, or is closed: OPERATION_CANCELLED
abbrev pub upload_waits : DroneState → Option Upload → DroneTick
upload_waits d None = record { drone = d; answer = None }
upload_waits d (Some u) =
    if nat_lt (u.idle + 1) idle_limit then record {
      drone = record d { upload = Some (record u { idle = u.idle + 1 }) };
      answer = Some (u.stream, ask u.stream u.kind (length u.items));
    }
    else record { drone = closed d u.stream; answer = Some (u.stream, ack u.stream 15 u.kind) }

abbrev pub drone_tick : DroneState → DroneTick
drone_tick d = upload_waits (record d { download = waited d.download }) d.upload
