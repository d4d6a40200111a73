-- PORT: where the packets of a link come from and go.
use Rattle.std.specs.Prelude.{◌≡◌, ◌≢◌, ◌==◌, ◌⊎◌, ℕ, Bool, true, false, List, [], ◌∷◌, ◌++◌, codes}
use Rattle.std.specs.List.{list_any}
use Rattle.command_line.specs.declared.ports.SocketKind.{SocketKind}
use Rattle.command_line.specs.declared.ports.SocketKind.TheVariants.{Tcp, Listen, Udp, UdpListen}
use Rattle.command_line.specs.declared.ports.FilesKind.{FilesKind}
use Rattle.command_line.specs.declared.ports.FilesKind.TheVariants.{File, Replay}
use Rattle.command_line.specs.Numbers.{IsNumber}

abbrev pub is_colon : ℕ → Bool
is_colon b = b == 58

-- what is between two colons
abbrev pub IsPart : List ℕ → Type 0
IsPart part = (part ≢ []) × (list_any is_colon part ≡ false)

abbrev pub kind_word : SocketKind → List ℕ
kind_word Tcp = codes "tcp"
kind_word Listen = codes "listen"
kind_word Udp = codes "udp"
kind_word UdpListen = codes "udplisten"

-- KIND:HOST:NUMBER
pub record IsSocket (word : List ℕ) : Type 0 where
  pub kind : SocketKind
  pub host : List ℕ
  pub number : List ℕ
  pub is_host : IsPart host
  pub is_number : IsNumber 1 65535 number
  pub word_is : word ≡ kind_word kind ++ 58 ∷ (host ++ 58 ∷ number)

abbrev pub files_word : FilesKind → List ℕ
files_word File = codes "file"
files_word Replay = codes "replay"

-- file:IN:OUT, or replay:IN:OUT, where IN is a telemetry log
pub record IsFiles (word : List ℕ) : Type 0 where
  pub kind : FilesKind
  pub input : List ℕ
  pub output : List ℕ
  pub is_input : IsPart input
  pub is_output : IsPart output
  pub word_is : word ≡ files_word kind ++ 58 ∷ (input ++ 58 ∷ output)

abbrev pub IsPort : List ℕ → Type 0
IsPort word = IsSocket word ⊎ IsFiles word

-- with `open:` before it or not
abbrev pub open_word : Bool → List ℕ → List ℕ
open_word true port = codes "open" ++ 58 ∷ port
open_word false port = port

-- a port of a router, which may be open to unsigned packets and to packets of MAVLink 1
pub record IsRouterPort (word : List ℕ) : Type 0 where
  pub is_open : Bool
  pub port : List ℕ
  pub is_port : IsPort port
  pub word_is : word ≡ open_word is_open port
