-- What contracts see of a client and of its open operation.
use Rattle.std.specs.Prelude.{◌≡◌, ℕ, ◌<◌, ◌≤◌, List, [], length}
use Rattle.mav_ftp.specs.declared.client.FtpClient.TheInside.{Inside as ClientParts}
use Rattle.mav_ftp.specs.declared.client.stages.Stage.{Stage}
use Rattle.mav_ftp.specs.declared.client.stages.Stage.TheVariants.{Listing as InListing, Opening as InOpening}
use Rattle.mav_ftp.specs.declared.client.stages.Stage.TheVariants.{Reading as InReading, Closing as InClosing}
use Rattle.mav_ftp.specs.declared.client.stages.Stage.TheVariants.{Creating as InCreating, Writing as InWriting}
use Rattle.mav_ftp.specs.declared.client.stages.Stage.TheVariants.{Committing as InCommitting, Removing as InRemoving}
use Rattle.mav_ftp.specs.declared.client.transfers.OpenTransfer.TheInside.{Inside as TransferParts}
use Rattle.mav_ftp.specs.declared.client.transfers.Course.{Course as NextCourse}
use Rattle.mav_ftp.specs.declared.client.transfers.Course.TheVariants.{Continues, Gives, Done, Refused}
use Rattle.mav_ftp.specs.Payload.{most_file}
use Rattle.mav_ftp.specs.Client.{FilePhase, Listing, Opening, Reading, Closing, Creating, Writing, Committing}
use Rattle.mav_ftp.specs.Client.{Removing, Transfer, TransferState, Course, Goes_on, Is_done, Is_refused, idle_limit}
use Rattle.mav_ftp.specs.Client.{most_taken, entries_in}

abbrev pub named : FilePhase → List ℕ → List ℕ → ℕ → Transfer
named phase name bytes idle = record {
  phase = phase;
  name = name;
  bytes = bytes;
  session = 0;
  written = 0;
  idle = idle;
}

abbrev pub in_session : FilePhase → ℕ → ℕ → List ℕ → ℕ → Transfer
in_session phase session written bytes idle =
    record { phase = phase; name = []; bytes = bytes; session = session; written = written; idle = idle }

abbrev pub stage_view : Stage → List ℕ → ℕ → Transfer
stage_view (InListing entries) bytes idle = named Listing [] bytes idle
stage_view (InOpening name) bytes idle = named Opening name bytes idle
stage_view (InReading session) bytes idle = in_session Reading session 0 bytes idle
stage_view (InClosing session) bytes idle = in_session Closing session 0 bytes idle
stage_view (InCreating name) bytes idle = named Creating name bytes idle
stage_view (InWriting session written) bytes idle = in_session Writing session written bytes idle
stage_view (InCommitting session) bytes idle = in_session Committing session (length bytes) bytes idle
stage_view (InRemoving name) bytes idle = named Removing name bytes idle

-- entries are counted, and a store has bytes left as long as it writes
abbrev pub IsStage : Stage → List ℕ → Type 0
IsStage (InListing entries) bytes = entries ≡ entries_in bytes
IsStage (InCreating name) bytes = length bytes ≤ most_file
IsStage (InWriting session written) bytes = (written < length bytes) × (length bytes ≤ most_file)
IsStage _ bytes = Unit {0}

abbrev pub transfer_view : TransferParts → Transfer
transfer_view t = stage_view t.stage t.bytes.items t.idle

-- a request with an offset is possible, and an operation that reached the limit isn't open any more
pub record IsTransfer (t : TransferParts) : Type 0 where
  pub stage : IsStage t.stage t.bytes.items
  pub few : length t.bytes.items ≤ most_taken
  pub waits : t.idle < idle_limit

abbrev pub client_view : ClientParts → TransferState
client_view c = record { last = c.last; operation = c.open }

abbrev pub course_of : Transfer → NextCourse → Course
course_of t Continues = Goes_on t
course_of t Gives = Is_done t.bytes
course_of t Done = Is_done []
course_of t (Refused code) = Is_refused code
