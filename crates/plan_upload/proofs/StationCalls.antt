-- What a station's calls come to, by the stage of the operation that was taken out.
use Rattle.std.proofs.Common.{◌≡◌, Bool, true, false, ◌&&◌, if◌then◌else◌, Option, Some, None, refl, sym, ap, ◌∙◌}
use Rattle.mav_names.specs.declared.names.Stream.{Stream}
use Rattle.plan_items.specs.declared.messages.PlanMsg.{PlanMsg}
use Rattle.plan_upload.specs.Addresses.{same_stream, same_name}
use Rattle.plan_upload.specs.Operations.{stage_view, operation_view, task_view}
use Rattle.plan_upload.specs.Station.{Phase, Pinging, Cancelling, Sending, Clearing, Listing_items, Getting, StationState, Operation, with_operation, stays, becomes, addressee, phase_step, phase_tick, phase_cancel, operation_step, operation_tick, operation_cancel, station_step, station_tick, station_cancel}
use Rattle.plan_upload.specs.StationView.{station_view}
use Rattle.plan_upload.specs.declared.operations.OpenOperation.{OpenOperation}
use Rattle.plan_upload.specs.declared.operations.Task.{Task}
use Rattle.plan_upload.specs.declared.operations.Task.TheVariants.{Upload, Clear, Get}
use Rattle.plan_upload.specs.declared.operations.Stage.{Stage}
use Rattle.plan_upload.specs.declared.operations.Stage.TheVariants.{Pinging as InPinging, Cancelling as InCancelling, Sending as InSending, Clearing as InClearing, Listing as InListing, Getting as InGetting}
use Rattle.plan_upload.specs.declared.station.Station.TheInside.{Inside}

abbrev pub phase_at : Stage → Phase
phase_at (InPinging task terminating number) = Pinging
phase_at (InCancelling task terminating number) = Cancelling
phase_at (InSending upload idle) = Sending
phase_at (InClearing kind idle) = Clearing
phase_at (InListing get idle) = Listing_items
phase_at (InGetting get) = Getting

drone_of_task : (drone : Stream) (task : Task) → (task_view drone task).drone ≡ drone
drone_of_task drone (Upload upload) = refl
drone_of_task drone (Clear kind) = refl
drone_of_task drone (Get get) = refl

phase_of_task : (drone : Stream) (task : Task) → (task_view drone task).phase ≡ Pinging
phase_of_task drone (Upload upload) = refl
phase_of_task drone (Clear kind) = refl
phase_of_task drone (Get get) = refl

drone_in : (drone : Stream) (stage : Stage) → (stage_view drone stage).drone ≡ drone
drone_in drone (InPinging task terminating number) = drone_of_task drone task
drone_in drone (InCancelling task terminating number) = drone_of_task drone task
drone_in drone (InSending upload idle) = refl
drone_in drone (InClearing kind idle) = refl
drone_in drone (InListing get idle) = refl
drone_in drone (InGetting get) = refl

phase_in : (drone : Stream) (stage : Stage) → (stage_view drone stage).phase ≡ phase_at stage
phase_in drone (InPinging task terminating number) = phase_of_task drone task
phase_in drone (InCancelling task terminating number) = refl
phase_in drone (InSending upload idle) = refl
phase_in drone (InClearing kind idle) = refl
phase_in drone (InListing get idle) = refl
phase_in drone (InGetting get) = refl

taken_out : (i : Inside) (o : OpenOperation) (stage : Stage) → i.operation ≡ Some o → o.stage ≡ stage → operation_view i.operation ≡ Some (stage_view o.drone stage)
taken_out i o stage taken is =
    ap operation_view taken ∙ ap (λ (t : Stage). Some (stage_view o.drone t)) is

-- an operation at a message that counts
pub stepped : (i : Inside) (o : OpenOperation) (stage : Stage) (s : StationState) (from : Stream) (m : PlanMsg) (a b : Bool) → station_view i ≡ s → i.operation ≡ Some o → o.stage ≡ stage → a ≡ same_stream from o.drone → b ≡ same_name (addressee m) i.me → a ≡ true → b ≡ true → station_step s from m ≡ phase_step (with_operation (station_view i) (stage_view o.drone stage)) (stage_view o.drone stage) (phase_at stage) m
stepped i o stage s from m a b view taken is first second one two =
    let here = stage_view o.drone stage in let now = with_operation (station_view i) here in
    let from_it : same_stream from here.drone ≡ true = ap (same_stream from) (drone_in o.drone stage) ∙ (sym first ∙ one) in
    let to_me : same_name (addressee m) i.me ≡ true = sym second ∙ two in
    sym (ap (λ (v : StationState). station_step v from m) view)
    ∙ (ap (λ (q : Option Operation). operation_step (record (station_view i) { operation = q }) q from m) (taken_out i o stage taken is)
    ∙ (λ k. if from_it k && to_me k then phase_step now here (phase_in o.drone stage k) m else stays now))

-- a tick
pub ticked : (i : Inside) (o : OpenOperation) (stage : Stage) (s : StationState) → station_view i ≡ s → i.operation ≡ Some o → o.stage ≡ stage → station_tick s ≡ phase_tick (with_operation (station_view i) (stage_view o.drone stage)) (stage_view o.drone stage) (phase_at stage)
ticked i o stage s view taken is =
    let here = stage_view o.drone stage in let now = with_operation (station_view i) here in
    sym (ap station_tick view)
    ∙ (ap (λ (q : Option Operation). operation_tick (record (station_view i) { operation = q }) q) (taken_out i o stage taken is)
    ∙ ap (phase_tick now here) (phase_in o.drone stage))

-- a cancel
pub cancelled : (i : Inside) (o : OpenOperation) (stage : Stage) (s : StationState) → station_view i ≡ s → i.operation ≡ Some o → o.stage ≡ stage → station_cancel s ≡ (if (stage_view o.drone stage).terminating then stays (with_operation (station_view i) (stage_view o.drone stage)) else phase_cancel (with_operation (station_view i) (stage_view o.drone stage)) (stage_view o.drone stage) (phase_at stage))
cancelled i o stage s view taken is =
    let here = stage_view o.drone stage in let now = with_operation (station_view i) here in
    sym (ap station_cancel view)
    ∙ (ap (λ (q : Option Operation). operation_cancel (record (station_view i) { operation = q }) q) (taken_out i o stage taken is)
    ∙ ap (λ (p : Phase). if here.terminating then stays now else phase_cancel now here p) (phase_in o.drone stage))

-- a cancel of an operation that is given up changes nothing
pub given_up : (s : StationState) (o : Bool → Operation) (terminating : Bool) → with_operation s (o true) ≡ (if terminating then stays (with_operation s (o terminating)) else becomes (with_operation s (o terminating)) (o true)).station
given_up s o true = refl
given_up s o false = refl

pub sends_nothing : (s : StationState) (o : Bool → Operation) (terminating : Bool) → None ≡ (if terminating then stays (with_operation s (o terminating)) else becomes (with_operation s (o terminating)) (o true)).answer
sends_nothing s o true = refl
sends_nothing s o false = refl
