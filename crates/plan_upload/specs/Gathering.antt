-- The open upload as the drone keeps it, and what its calls return.
use Rattle.std.specs.Prelude.{ℕ, ◌+◌, ◌==◌, Bool, false, ◌&&◌, not, nat_lt, is_some, [], ◌∷◌, ◌++◌, length, Option}
use Rattle.std.specs.Prelude.{Some, None, if◌then◌else◌}
use Rattle.mav_names.specs.declared.names.Stream.{Stream}
use Rattle.plan_items.specs.Kinds.{kind_of}
use Rattle.plan_items.specs.Validation.{item_fault, plan_fault, code_of}
use Rattle.plan_items.specs.declared.items.Item.{Item}
use Rattle.plan_items.specs.declared.faults.PlanFault.{PlanFault}
use Rattle.plan_items.specs.declared.kinds.PlanKind.{PlanKind}
use Rattle.plan_items.specs.declared.messages.PlanMsg.{PlanMsg}
use Rattle.plan_upload.specs.Addresses.{same_stream}
use Rattle.plan_upload.specs.Drone.{DroneState, Upload, installed, ack, ask, idle_limit}
use Rattle.plan_upload.specs.Plans.{Plans, with_plan}
use Rattle.plan_upload.specs.declared.verdicts.Verdict.{Verdict}
use Rattle.plan_upload.specs.declared.verdicts.Verdict.TheVariants.{NotOwn, AskAgain, Refuse, Gather, Install}

abbrev pub last_verdict : Option PlanFault → Verdict
last_verdict (Some fault) = Refuse 5
last_verdict None = Install

abbrev pub item_verdict : Upload → Item → Option PlanFault → Verdict
item_verdict u item (Some fault) = Refuse (code_of fault)
item_verdict u item None =
    if nat_lt (length u.items + 1) u.total then Gather else last_verdict (plan_fault u.kind (u.items ++ item ∷ []))

-- what an item of a stream does
abbrev pub verdict_of : Option Upload → Stream → ℕ → ℕ → Item → Verdict
verdict_of None s seq kind item = NotOwn
verdict_of (Some u) s seq kind item =
    if not (same_stream u.stream s) then NotOwn
    else if not ((kind == u.kind) && (seq == length u.items)) then AskAgain
    else item_verdict u item (item_fault u.kind item)

-- the request of the next item, if an upload is open
abbrev pub asked_of : Option Upload → Stream → Option PlanMsg
asked_of None s = None
asked_of (Some u) s = Some (ask s u.kind (length u.items))

-- an acknowledgement with the upload's kind
abbrev pub acked_of : Option Upload → Stream → ℕ → Option PlanMsg
acked_of None s code = None
acked_of (Some u) s code = Some (ack s code u.kind)

-- one item more
abbrev pub with_item : Option Upload → Item → Option Upload
with_item None item = None
with_item (Some u) item = Some (record u { items = u.items ++ item ∷ []; idle = 0 })

-- the plans after the install of the upload with this last item
abbrev pub plans_with : Plans → Option Upload → Item → Plans
plans_with plans None item = plans
plans_with plans (Some u) item = with_plan plans u.kind (u.items ++ item ∷ [])

-- the item has no fault, and isn't the last
abbrev pub can_gather : Option Upload → Item → Bool
can_gather None item = false
can_gather (Some u) item = not (is_some (item_fault u.kind item)) && nat_lt (length u.items + 1) u.total

-- the whole plan with this last item has no fault
abbrev pub is_sound_with : Option Upload → Item → Bool
is_sound_with None item = false
is_sound_with (Some u) item = not (is_some (plan_fault u.kind (u.items ++ item ∷ [])))

-- the drone after the install of the upload with this last item
abbrev pub installed_by : DroneState → Stream → Option Upload → Item → DroneState
installed_by d s None item = d
installed_by d s (Some u) item = installed d s u.kind (u.items ++ item ∷ [])

abbrev pub stream_of : Option Upload → Option Stream
stream_of None = None
stream_of (Some u) = Some u.stream

abbrev pub kind_in : Option Upload → Option PlanKind
kind_in None = None
kind_in (Some u) = kind_of u.kind

-- a tick: the upload after it, and what it sends to which stream
abbrev pub upload_after : Option Upload → Option Upload
upload_after None = None
upload_after (Some u) = if nat_lt (u.idle + 1) idle_limit then Some (record u { idle = u.idle + 1 }) else None

abbrev pub sent_at_tick : Option Upload → Option (Stream × PlanMsg)
sent_at_tick None = None
sent_at_tick (Some u) =
    if nat_lt (u.idle + 1) idle_limit then Some (u.stream, ask u.stream u.kind (length u.items))
    else Some (u.stream, ack u.stream 15 u.kind)
