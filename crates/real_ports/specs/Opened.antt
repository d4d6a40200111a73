-- What was just opened.
use Rattle.std.specs.Prelude.{ℕ, ◌≡◌, List, Option, None, Some, false, true, Bool}
use Rattle.command_line.specs.declared.ports.SocketKind.{SocketKind}
use Rattle.command_line.specs.declared.ports.SocketKind.TheVariants.{Tcp, Listen, Udp, UdpListen}
use Rattle.command_line.specs.declared.ports.FilesKind.{FilesKind}
use Rattle.command_line.specs.declared.ports.FilesKind.TheVariants.{File, Replay}
use Rattle.command_line.specs.declared.ports.Target.{Target}
use Rattle.command_line.specs.declared.ports.Target.TheVariants.{Socket as SocketTarget, Files as FilesTarget}
use Rattle.command_line.specs.PortTexts.{target_text}
use Rattle.mav_links.specs.Links.{LinkState}
use Rattle.real_ports.specs.declared.links.RealLink.{RealLink}
use Rattle.real_ports.specs.declared.links.RealLink.TheVariants.{Unopened, Files, Log, Stream, Datagrams}
use Rattle.real_ports.specs.declared.stores.RealStore.{RealStore}
use Rattle.real_ports.specs.declared.stores.RealStore.TheVariants.{File as InFile, Failing}

-- a link to the system, before its first call: nothing is known of its bytes, and nothing was counted
abbrev pub just_opened : LinkState
just_opened = record { left = None; sent = None; faults = 0; idles = 0; pauses = None; ended = false }

-- whether a link was opened
abbrev pub is_open : RealLink → Bool
is_open (Unopened opening) = false
is_open link = true

-- the word of what a link opens at its first call, if it hasn't been opened
abbrev pub target_of : RealLink → Option (List ℕ)
target_of (Unopened opening) = Some (target_text opening.target)
target_of link = None

-- whether a link is what a socket of that kind has: a TCP connection, or datagrams
abbrev pub is_of_socket : SocketKind → RealLink → Bool
is_of_socket Tcp (Stream link) = true
is_of_socket Listen (Stream link) = true
is_of_socket Udp (Datagrams link) = true
is_of_socket UdpListen (Datagrams link) = true
is_of_socket kind link = false

-- whether a link is what files of that kind have: their bytes, or the frames of a log
abbrev pub is_of_files : FilesKind → RealLink → Bool
is_of_files File (Files link) = true
is_of_files Replay (Log link) = true
is_of_files kind link = false

-- whether a link is what a port names
abbrev pub is_of_target : Target → RealLink → Bool
is_of_target (SocketTarget socket) link = is_of_socket socket.kind link
is_of_target (FilesTarget files) link = is_of_files files.kind link

-- a link after its opening: of what it was to be opened from, and as it was if that was done before
abbrev pub IsOpenedFrom : RealLink → RealLink → Type 0
IsOpenedFrom (Unopened opening) now = is_of_target opening.target now ≡ true
IsOpenedFrom old now = now ≡ old

-- whether a store is over a file
abbrev pub is_in_file : RealStore → Bool
is_in_file (InFile store) = true
is_in_file (Failing store) = false
