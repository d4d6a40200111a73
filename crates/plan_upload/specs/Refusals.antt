-- Why a station refuses a new operation, the first that applies.
use Rattle.std.specs.Prelude.{ℕ, ◌==◌, nat_lt, List, length, Option, Some, None, if◌then◌else◌}
use Rattle.plan_items.specs.declared.items.Item.{Item}
use Rattle.plan_items.specs.Kinds.{limit_of}
use Rattle.plan_upload.specs.declared.faults.OpFault.{OpFault}
use Rattle.plan_upload.specs.declared.faults.OpFault.TheVariants.{Busy, EmptyPlan, PingsSpent, NotFit}
use Rattle.plan_upload.specs.Station.{StationState, Operation, phase_number, last_ping}

-- an operation has no outcome yet
abbrev pub busy_with : Option Operation → Option OpFault
busy_with None = None
busy_with (Some o) = Some (Busy (phase_number o.phase))

abbrev pub first_of : Option OpFault → Option OpFault → Option OpFault
first_of None next = next
first_of (Some fault) next = Some fault

-- no PING number is left
abbrev pub spent : StationState → Option OpFault
spent s = if nat_lt s.pings last_ping then None else Some PingsSpent

abbrev pub empty_plan : List Item → Option OpFault
empty_plan plan = if length plan == 0 then Some EmptyPlan else None

-- more items than the kind has room for
abbrev pub unfit : ℕ → List Item → Option OpFault
unfit kind plan = if nat_lt (limit_of kind) (length plan) then Some (NotFit (limit_of kind)) else None

abbrev pub upload_refusal : StationState → ℕ → List Item → Option OpFault
upload_refusal s kind plan = first_of (busy_with s.operation)
    (first_of (empty_plan plan) (first_of (spent s) (unfit kind plan)))

-- of a clear or a download
abbrev pub refusal : StationState → Option OpFault
refusal s = first_of (busy_with s.operation) (spent s)
