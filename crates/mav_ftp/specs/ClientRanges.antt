-- The ranges of what a client keeps and sends.
use Rattle.std.specs.Prelude.{◌<◌, ◌≤◌, length, IfSome}
use Rattle.mav_ftp.specs.Payload.{most_name}
use Rattle.mav_ftp.specs.Ranges.{AreBytes}
use Rattle.mav_ftp.specs.Client.{Transfer, TransferState, FileOrder, store_order, most_taken}

pub record TransferInRange (t : Transfer) : Type 0 where
  pub name : AreBytes t.name
  pub short : length t.name ≤ most_name
  pub bytes : AreBytes t.bytes
  pub few : length t.bytes ≤ most_taken
  pub session : t.session < 256

abbrev pub TransfersInRange : TransferState → Type 0
TransfersInRange s = IfSome s.operation TransferInRange

-- the bytes that an order brings; a name's are checked
abbrev pub OrderInRange : FileOrder → Type 0
OrderInRange (store_order name bytes) = AreBytes bytes
OrderInRange _ = Unit {0}
