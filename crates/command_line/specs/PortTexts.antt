-- How a PORT is read, colon by colon, and the word of a port as the program holds it.
use Rattle.std.specs.Prelude.{◌≡◌, ◌&&◌, not, nat_lt, if◌then◌else◌, ℕ, Bool, true, false, List, [], ◌∷◌, ◌++◌, length}
use Rattle.std.specs.Prelude.{Option, Some, None, is_some, codes, string_bytes}
use Rattle.std.specs.List.{find, list_any, before_first, after_first, position_or_len}
use Rattle.std.specs.Fmt.{decimal}
use Rattle.std.specs.Str.{bytes_eq}
use Rattle.command_line.specs.declared.ports.SocketKind.{SocketKind}
use Rattle.command_line.specs.declared.ports.SocketKind.TheVariants.{Tcp, Listen, Udp, UdpListen}
use Rattle.command_line.specs.declared.ports.Socket.{Socket}
use Rattle.command_line.specs.declared.ports.FilesKind.{FilesKind}
use Rattle.command_line.specs.declared.ports.FilesKind.TheVariants.{File, Replay}
use Rattle.command_line.specs.declared.ports.Files.{Files}
use Rattle.command_line.specs.declared.ports.Target.{Target}
use Rattle.command_line.specs.declared.ports.Target.TheVariants.{Socket as SocketTarget, Files as FilesTarget}
use Rattle.command_line.specs.declared.ports.Port.{Port}
use Rattle.command_line.specs.Numbers.{number_in}
use Rattle.command_line.specs.Ports.{is_colon, kind_word, files_word, open_word}

-- something that was read of a word has that text; nothing was read exactly if the word fails its test
abbrev pub IsRead : {A W : Type 0} → (A → W) → Bool → W → Option A → Type 0
IsRead text passes word None = passes ≡ false
IsRead text passes word (Some a) = (passes ≡ true) × (text a ≡ word)

-- a word at its first colon
abbrev pub has_colon : List ℕ → Bool
has_colon word = nat_lt (position_or_len is_colon word) (length word)

abbrev pub before_colon : List ℕ → List ℕ
before_colon word = before_first is_colon word

abbrev pub after_colon : List ℕ → List ℕ
after_colon word = after_first is_colon word

abbrev pub is_some_text : List ℕ → Bool
is_some_text [] = false
is_some_text (b ∷ bs) = true

abbrev pub is_part : List ℕ → Bool
is_part part = is_some_text part && not (list_any is_colon part)

abbrev pub all_kinds : List SocketKind
all_kinds = Tcp ∷ Listen ∷ Udp ∷ UdpListen ∷ []

abbrev pub kind_named : List ℕ → Option SocketKind
kind_named word = find (λ k. bytes_eq word (kind_word k)) all_kinds

abbrev pub all_files_kinds : List FilesKind
all_files_kinds = File ∷ Replay ∷ []

abbrev pub files_named : List ℕ → Option FilesKind
files_named word = find (λ k. bytes_eq word (files_word k)) all_files_kinds

-- whether a word is a PORT
abbrev pub is_end : Option SocketKind → (kind end : List ℕ) → Bool
is_end (Some k) kind end = is_some (number_in 1 65535 end)
is_end None kind end = is_some (files_named kind) && is_part end

abbrev pub is_rest : (kind rest : List ℕ) → Bool
is_rest kind rest = has_colon rest && (is_part (before_colon rest) && is_end (kind_named kind) kind (after_colon rest))

abbrev pub is_port : List ℕ → Bool
is_port word = has_colon word && is_rest (before_colon word) (after_colon word)

-- whether it is one with `open:` before it or not
abbrev pub is_marked : List ℕ → Bool
is_marked word = has_colon word && bytes_eq (before_colon word) (codes "open")

abbrev pub is_router_port : List ℕ → Bool
is_router_port word = if is_marked word then is_port (after_colon word) else is_port word

-- the words of ports
abbrev pub socket_text : Socket → List ℕ
socket_text s = kind_word s.kind ++ 58 ∷ (string_bytes s.host ++ 58 ∷ decimal s.number)

abbrev pub files_text : Files → List ℕ
files_text f = files_word f.kind ++ 58 ∷ (string_bytes f.input ++ 58 ∷ string_bytes f.output)

abbrev pub target_text : Target → List ℕ
target_text (SocketTarget s) = socket_text s
target_text (FilesTarget f) = files_text f

abbrev pub port_text : Port → List ℕ
port_text p = open_word p.is_open (target_text p.target)
