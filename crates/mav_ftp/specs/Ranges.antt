-- The ranges of what a server keeps and sends.
use Rattle.std.specs.Prelude.{◌≡◌, ℕ, ◌<◌, ◌≤◌, true, List, length, Option, IfSome}
use Rattle.std.specs.List.{All}
use Rattle.mav_ftp.specs.declared.exchanges.Exchange.{Exchange}
use Rattle.mav_ftp.specs.Payload.{payload_bytes, most_file, is_file_name}
use Rattle.mav_ftp.specs.Files.{File, most_files}
use Rattle.mav_ftp.specs.Sessions.{Session}
use Rattle.mav_ftp.specs.Server.{FilesState}

abbrev pub AreBytes : List ℕ → Type 0
AreBytes bs = All (λ b. b < 256) bs

-- the bytes of a payload's field
pub record PayloadInRange (p : List ℕ) : Type 0 where
  pub size : length p ≡ payload_bytes
  pub bytes : AreBytes p

pub record ContentInRange (content : List ℕ) : Type 0 where
  pub few : length content ≤ most_file
  pub bytes : AreBytes content

pub record FileInRange (f : File) : Type 0 where
  pub name : is_file_name f.name ≡ true
  pub content : ContentInRange f.bytes

pub record SessionInRange (s : Session) : Type 0 where
  pub name : IfSome s.name (λ name. is_file_name name ≡ true)
  pub content : ContentInRange s.bytes

abbrev pub SlotInRange : Option Session → Type 0
SlotInRange slot = IfSome slot SessionInRange

abbrev pub ExchangeInRange : Exchange → Type 0
ExchangeInRange e = PayloadInRange e.reply

-- at most 64 files and four sessions, each of at most 1,048,576 bytes
pub record FilesInRange (st : FilesState) : Type 0 where
  pub few : length st.files ≤ most_files
  pub files : All FileInRange st.files
  pub four : length st.sessions ≡ 4
  pub sessions : All SlotInRange st.sessions
  pub exchanges : All ExchangeInRange st.exchanges
