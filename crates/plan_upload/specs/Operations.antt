-- A station's operation as it is kept, phase by phase.
use Rattle.std.specs.Prelude.{ℕ, [], Bool, false, Option, Some, None}
use Rattle.mav_names.specs.declared.names.Stream.{Stream}
use Rattle.plan_items.specs.Kinds.{number_of}
use Rattle.plan_items.specs.Plans.{items_of}
use Rattle.plan_items.specs.declared.kinds.PlanKind.{PlanKind}
use Rattle.plan_upload.specs.Kinds.{clear_number}
use Rattle.plan_upload.specs.Station.{Work, Uploads, Clears, Gets, Pinging, Cancelling, Sending, Clearing}
use Rattle.plan_upload.specs.Station.{Listing_items, Getting, Operation, Told, operation_of, outcome_at, phase_number}
use Rattle.plan_upload.specs.declared.operations.UploadTask.{UploadTask}
use Rattle.plan_upload.specs.declared.operations.GetTask.{GetTask}
use Rattle.plan_upload.specs.declared.operations.Getting.{Getting as DownloadParts}
use Rattle.plan_upload.specs.declared.operations.Task.{Task}
use Rattle.plan_upload.specs.declared.operations.Task.TheVariants.{Upload, Clear, Get}
use Rattle.plan_upload.specs.declared.operations.Stage.{Stage}
use Rattle.plan_upload.specs.declared.operations.Stage.TheVariants.{Pinging as InPinging, Cancelling as InCancelling}
use Rattle.plan_upload.specs.declared.operations.Stage.TheVariants.{Sending as InSending, Clearing as InClearing}
use Rattle.plan_upload.specs.declared.operations.Stage.TheVariants.{Listing as InListing, Getting as InGetting}
use Rattle.plan_upload.specs.declared.operations.OpenOperation.{OpenOperation}

-- an operation at the start of a resynchronisation attempt, before a PING number is taken for it
abbrev pub upload_task : Stream → UploadTask → Operation
upload_task drone t =
    record (operation_of Uploads drone (number_of t.kind) (items_of t.plan)) {
      asked = t.asked;
      final_sent = t.final_sent;
      code = t.code;
    }

-- a clear or a download
abbrev pub plain_task : Work → Stream → ℕ → Operation
plain_task work drone kind = operation_of work drone kind []

abbrev pub task_view : Stream → Task → Operation
task_view drone (Upload t) = upload_task drone t
task_view drone (Clear kind) = plain_task Clears drone (clear_number kind)
task_view drone (Get t) = plain_task Gets drone (number_of t.kind)

abbrev pub pinging_view : Stream → Task → Bool → Option ℕ → Operation
pinging_view drone task terminating number =
    record (task_view drone task) { terminating = terminating; number = number }

abbrev pub cancelling_view : Stream → Task → Bool → ℕ → Operation
cancelling_view drone task terminating number =
    record (task_view drone task) { phase = Cancelling; terminating = terminating; number = Some number }

abbrev pub sending_view : Stream → UploadTask → ℕ → Operation
sending_view drone t idle = record (upload_task drone t) { phase = Sending; idle = idle }

abbrev pub clearing_view : Stream → Option PlanKind → ℕ → Operation
clearing_view drone kind idle = record (plain_task Clears drone (clear_number kind)) { phase = Clearing; idle = idle }

abbrev pub listing_view : Stream → GetTask → ℕ → Operation
listing_view drone t idle = record (plain_task Gets drone (number_of t.kind)) { phase = Listing_items; idle = idle }

abbrev pub getting_view : Stream → DownloadParts → Operation
getting_view drone t = record (plain_task Gets drone (number_of t.kind)) {
  phase = Getting;
  idle = t.idle;
  total = t.total;
  got = t.items;
}

abbrev pub stage_view : Stream → Stage → Operation
stage_view drone (InPinging task terminating number) = pinging_view drone task terminating number
stage_view drone (InCancelling task terminating number) = cancelling_view drone task terminating number
stage_view drone (InSending upload idle) = sending_view drone upload idle
stage_view drone (InClearing kind idle) = clearing_view drone kind idle
stage_view drone (InListing get idle) = listing_view drone get idle
stage_view drone (InGetting get) = getting_view drone get

abbrev pub operation_view : Option OpenOperation → Option Operation
operation_view None = None
operation_view (Some o) = Some (stage_view o.drone o.stage)

-- how a terminating task ends, by the reply to its cancel
abbrev pub told_at : Task → ℕ → Told
told_at (Upload t) code = outcome_at Uploads t.final_sent code t.code
told_at (Clear kind) code = outcome_at Clears false code None
told_at (Get t) code = outcome_at Gets false code None

-- the number of a task's kind
abbrev pub kind_of_task : Task → ℕ
kind_of_task (Upload t) = number_of t.kind
kind_of_task (Clear kind) = clear_number kind
kind_of_task (Get t) = number_of t.kind

-- the number of a stage's phase
abbrev pub phase_of : Stage → ℕ
phase_of (InPinging task terminating number) = phase_number Pinging
phase_of (InCancelling task terminating number) = phase_number Cancelling
phase_of (InSending upload idle) = phase_number Sending
phase_of (InClearing kind idle) = phase_number Clearing
phase_of (InListing get idle) = phase_number Listing_items
phase_of (InGetting get) = phase_number Getting
