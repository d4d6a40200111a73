-- Messages of file transfer: a drone's replies can be sent, and its files stay in range; a station says nothing of files.
use Rattle.std.proofs.Common.{◌≡◌, ℕ, ◌≤◌, ◌&&◌, List, [], ◌∷◌, length, Option, None, refl, sym, ap, subst, arith, ◌∙◌}
use Rattle.field_layout.specs.Definition.{all_fields}
use Rattle.field_layout.specs.Payload.{FitsLayout}
use Rattle.mav_names.specs.declared.names.Name.{Name}
use Rattle.mav_names.specs.declared.names.Stream.{Stream}
use Rattle.mav_names.specs.Addresses.{same_stream, same_name, is_for_node}
use Rattle.mav_messages.specs.declared.files.FileTransferProtocol.{FileTransferProtocol as FileMessage}
use Rattle.mav_messages.specs.declared.messages.Message.{Message}
use Rattle.mav_messages.specs.declared.messages.Message.TheVariants.{FileTransferProtocol}
use Rattle.mav_messages.specs.Messages.{definition_of, values_of}
use Rattle.mav_messages.proofs.Decoded.{fits_layout}
use Rattle.param_proto.proofs.ParamRanges.{each_byte}
use Rattle.mav_ftp.specs.declared.client.ends.FtpStep.{FtpStep}
use Rattle.mav_ftp.specs.declared.client.ends.FtpStep.TheVariants.{Quiet, Send, Done, Refused}
use Rattle.mav_ftp.specs.declared.client.ends.FtpTick.{FtpTick}
use Rattle.mav_ftp.specs.declared.client.ends.FtpTick.TheVariants.{Quiet as Quiet_tick, Again, NoAnswer}
use Rattle.mav_ftp.specs.Ranges.{PayloadInRange, FilesInRange}
use Rattle.mav_ftp.specs.Server.{FilesState, reply_to}
use Rattle.mav_ftp.specs.Client.{Transfer, request_seq, heard, step_answer, after_tick, tick_of, tick_answer}
use Rattle.mav_ftp.proofs.FilesRanges.{after_in_range, reply_in_range}
use Rattle.mav_nodes.specs.FileServices.{file_message, target_of, FilesStep, replies, files_step, StationFiles, TransferStep, sent_of_step, end_of_step, transfers, transfer_heard, sent_of_tick, end_of_tick, transfer_waits}
use Rattle.plan_ranges.specs.Ranges.{StreamInRange}
use Rattle.fleet_invariants.proofs.Tests.{by_test}
use Rattle.fleet_invariants.proofs.Params.{Sendable, AllSendable}

-- ---- what is said of files: nothing, or one message

pub data SaysOfFiles (ms : List Message) : Type 0 where
  Says_nothing : ms ≡ [] → SaysOfFiles ms
  Says_one : (to : Stream) (payload : List ℕ) → ms ≡ file_message to payload ∷ [] → SaysOfFiles ms

pub says_few : (ms : List Message) → SaysOfFiles ms → length ms ≤ 1
says_few ms (Says_nothing e) = subst (λ (l : List Message). length l ≤ 1) (sym e) (omega arith)
says_few ms (Says_one to payload e) = subst (λ (l : List Message). length l ≤ 1) (sym e) (omega arith)

pub drone_says : (st : FilesState) (me : Name) (from : Stream) (m : Message) → SaysOfFiles (files_step st me from m).answers
drone_says st me from (FileTransferProtocol m) =
    by_test (λ (t : FilesStep). SaysOfFiles t.answers) (is_for_node me (target_of m)) (replies st from m.payload) (record { files = st; answers = [] })
    (λ _. Says_one from (reply_to st from m.payload) refl) (λ _. Says_nothing refl)
drone_says st me from _ = Says_nothing refl

step_says : (drone : Stream) (step : FtpStep) → SaysOfFiles (sent_of_step drone step)
step_says drone Quiet = Says_nothing refl
step_says drone (Send payload) = Says_one drone payload refl
step_says drone (Done bytes) = Says_nothing refl
step_says drone (Refused code) = Says_nothing refl

pub station_says : (v : StationFiles) (from : Stream) (m : Message) → SaysOfFiles (transfer_heard v from m).answers
station_says v from (FileTransferProtocol m) =
    by_test (λ (t : TransferStep). SaysOfFiles t.answers) (same_stream v.drone from && same_name v.me (target_of m)) (transfers v m.payload) (record { files = v; answers = []; end = None })
    (λ _. step_says v.drone (step_answer v.transfer m.payload)) (λ _. Says_nothing refl)
station_says v from _ = Says_nothing refl

again_says : (drone : Stream) (tick : FtpTick) → SaysOfFiles (sent_of_tick drone tick)
again_says drone Quiet_tick = Says_nothing refl
again_says drone (Again payload) = Says_one drone payload refl
again_says drone (NoAnswer ticks) = Says_nothing refl

pub tick_says : (v : StationFiles) → SaysOfFiles (transfer_waits v).answers
tick_says v = again_says v.drone (tick_answer v.transfer)

-- ---- a drone

payload_fits : (m : FileMessage) → FitsLayout (definition_of (FileTransferProtocol m)) (values_of (FileTransferProtocol m)) → PayloadInRange m.payload
payload_fits m fits = let field = fits.1.1.1.0 in record { size = field.0; bytes = field.1 }

file_sendable : (to : Stream) (payload : List ℕ) → StreamInRange to → PayloadInRange payload → Sendable (file_message to payload)
file_sendable to payload range h = record {
  fits = record {
    values =
        fits_layout (all_fields (definition_of (file_message to payload))) (values_of (file_message to payload))
        ((refl, omega arith), ((refl, range.sys), ((refl, range.comp), ((h.size, each_byte payload h.bytes), tt))));
    item = tt;
    service = tt;
  };
  no_plan = refl;
}

pub record FilesGo (t : FilesStep) : Type 0 where
  pub files : FilesInRange t.files
  pub answers : AllSendable t.answers

pub files_go : (st : FilesState) (me : Name) (from : Stream) (m : Message) → FilesInRange st → StreamInRange from → FitsLayout (definition_of m) (values_of m) → FilesGo (files_step st me from m)
files_go st me from (FileTransferProtocol m) h range fits =
    let payload = payload_fits m fits in
    by_test FilesGo (is_for_node me (target_of m)) (replies st from m.payload) (record { files = st; answers = [] })
    (λ _. record {
      files = after_in_range st from m.payload h payload;
      answers = (file_sendable from (reply_to st from m.payload) range (reply_in_range st from m.payload h payload), tt);
    }) (λ _. record { files = h; answers = tt })
files_go st me from _ h range fits = record { files = h; answers = tt }

-- ---- a station that asks for no file: a message and a tick change nothing

abbrev pub no_transfer : StationFiles → TransferStep
no_transfer v = record { files = v; answers = []; end = None }

pub hears_idly : (v : StationFiles) (from : Stream) (m : Message) → v.transfer.operation ≡ None → transfer_heard v from m ≡ no_transfer v
hears_idly v from (FileTransferProtocol m) idle =
    by_test (λ (t : TransferStep). t ≡ no_transfer v) (same_stream v.drone from && same_name v.me (target_of m)) (transfers v m.payload) (no_transfer v)
    (λ _. ap heard_of idle) (λ _. refl)
  where
    heard_of : Option Transfer → TransferStep
    heard_of o =
        let step = heard v.transfer o m.payload in
        record { files = record v { transfer = step.state }; answers = sent_of_step v.drone step.answer; end = end_of_step step.answer }
hears_idly v from _ idle = refl

pub waits_idly : (v : StationFiles) → v.transfer.operation ≡ None → transfer_waits v ≡ no_transfer v
waits_idly v idle = ap ticked idle ∙ ap still (sym idle)
  where
    ticked : Option Transfer → TransferStep
    ticked o =
        let tick = tick_of (request_seq v.transfer.last) o in
        record { files = record v { transfer = record v.transfer { operation = after_tick o } }; answers = sent_of_tick v.drone tick; end = end_of_tick tick }

    still : Option Transfer → TransferStep
    still o = record { files = record v { transfer = record v.transfer { operation = o } }; answers = []; end = None }
