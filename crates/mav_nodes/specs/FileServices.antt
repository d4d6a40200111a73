-- File transfer of nodes: a drone's server and a station's client, with the addresses of their messages (MAVLink
-- guide, MAVLink FTP).
use Rattle.std.specs.Prelude.{ℕ, ◌&&◌, if◌then◌else◌, List, [], ◌∷◌, Option, Some, None}
use Rattle.mav_names.specs.declared.names.Name.{Name}
use Rattle.mav_names.specs.declared.names.Stream.{Stream}
use Rattle.mav_names.specs.Addresses.{same_stream, same_name, is_for_node}
use Rattle.mav_messages.specs.declared.files.FileTransferProtocol.{FileTransferProtocol as FileMessage}
use Rattle.mav_messages.specs.declared.messages.Message.{Message}
use Rattle.mav_messages.specs.declared.messages.Message.TheVariants.{FileTransferProtocol}
use Rattle.mav_ftp.specs.declared.client.ends.FtpStep.{FtpStep}
use Rattle.mav_ftp.specs.declared.client.ends.FtpStep.TheVariants.{Quiet, Send, Done, Refused}
use Rattle.mav_ftp.specs.declared.client.ends.FtpTick.{FtpTick}
use Rattle.mav_ftp.specs.declared.client.ends.FtpTick.TheVariants.{Quiet as Quiet_tick, Again, NoAnswer}
use Rattle.mav_ftp.specs.Server.{FilesState, reply_to, files_after}
use Rattle.mav_ftp.specs.Client.{TransferState, FileOrder, list_order, fetch_order, store_order, remove_order}
use Rattle.mav_ftp.specs.Client.{no_transfer, ordered, request_of, transfer_step, step_answer, transfer_tick}
use Rattle.mav_ftp.specs.Client.{tick_answer}
use Rattle.mav_nodes.specs.declared.orders.FileOp.{FileOp}
use Rattle.mav_nodes.specs.declared.orders.FileOp.TheVariants.{List as Lists, Fetch, Store, Remove}
use Rattle.mav_nodes.specs.declared.news.FileEnd.{FileEnd}
use Rattle.mav_nodes.specs.declared.news.FileEnd.TheVariants.{Done as Gives, Refused as Was_refused}
use Rattle.mav_nodes.specs.declared.news.FileEnd.TheVariants.{NoAnswer as Unanswered}

-- a payload for a node
abbrev pub file_message : Stream → List ℕ → Message
file_message to payload =
    FileTransferProtocol (record {
      target_network = 0;
      target_system = to.sys;
      target_component = to.comp;
      payload = payload;
    })

abbrev pub target_of : FileMessage → Name
target_of m = record { sys = m.target_system; comp = m.target_component }

-- ---- a drone's server

pub record FilesStep : Type 0 where
  pub files : FilesState
  pub answers : List Message

-- the sender of a request gets the reply
abbrev pub replies : FilesState → Stream → List ℕ → FilesStep
replies st from payload = record {
  files = files_after st from payload;
  answers = file_message from (reply_to st from payload) ∷ [];
}

-- a message: a request for this node is replied to
abbrev pub files_step : FilesState → Name → Stream → Message → FilesStep
files_step st me from (FileTransferProtocol m) =
    if is_for_node me (target_of m) then replies st from m.payload else record { files = st; answers = [] }
files_step st me from other = record { files = st; answers = [] }

-- ---- a station's client

pub record StationFiles : Type 0 where
  pub me : Name
  pub drone : Stream  -- that of the latest operation; before the first, of no node
  pub transfer : TransferState

pub record TransferStep : Type 0 where
  pub files : StationFiles
  pub answers : List Message
  pub end : Option FileEnd

abbrev pub nobody : Stream
nobody = record { sys = 0; comp = 0; link = 0 }

abbrev pub new_station_files : Name → StationFiles
new_station_files me = record { me = me; drone = nobody; transfer = no_transfer }

-- what is sent of a client's step, and how an operation ends with it
abbrev pub sent_of_step : Stream → FtpStep → List Message
sent_of_step drone Quiet = []
sent_of_step drone (Send payload) = file_message drone payload ∷ []
sent_of_step drone (Done bytes) = []
sent_of_step drone (Refused code) = []

abbrev pub end_of_step : FtpStep → Option FileEnd
end_of_step Quiet = None
end_of_step (Send payload) = None
end_of_step (Done bytes) = Some (Gives bytes)
end_of_step (Refused code) = Some (Was_refused code)

abbrev pub transfers : StationFiles → List ℕ → TransferStep
transfers v payload = record {
  files = record v { transfer = transfer_step v.transfer payload };
  answers = sent_of_step v.drone (step_answer v.transfer payload);
  end = end_of_step (step_answer v.transfer payload);
}

-- a message: a payload of the operation's drone for this node is taken
abbrev pub transfer_heard : StationFiles → Stream → Message → TransferStep
transfer_heard v from (FileTransferProtocol m) =
    if same_stream v.drone from && same_name v.me (target_of m) then transfers v m.payload
    else record { files = v; answers = []; end = None }
transfer_heard v from other = record { files = v; answers = []; end = None }

-- the same of a tick
abbrev pub sent_of_tick : Stream → FtpTick → List Message
sent_of_tick drone Quiet_tick = []
sent_of_tick drone (Again payload) = file_message drone payload ∷ []
sent_of_tick drone (NoAnswer ticks) = []

abbrev pub end_of_tick : FtpTick → Option FileEnd
end_of_tick Quiet_tick = None
end_of_tick (Again payload) = None
end_of_tick (NoAnswer ticks) = Some Unanswered

abbrev pub transfer_waits : StationFiles → TransferStep
transfer_waits v = record {
  files = record v { transfer = transfer_tick v.transfer };
  answers = sent_of_tick v.drone (tick_answer v.transfer);
  end = end_of_tick (tick_answer v.transfer);
}

-- an operation begins
abbrev pub file_order : FileOp → FileOrder
file_order Lists = list_order
file_order (Fetch name) = fetch_order name
file_order (Store name bytes) = store_order name bytes.items
file_order (Remove name) = remove_order name

abbrev pub begins : StationFiles → Stream → FileOrder → TransferStep
begins v drone order = record {
  files = record v { drone = drone; transfer = ordered v.transfer order };
  answers = file_message drone (request_of (ordered v.transfer order)) ∷ [];
  end = None;
}
