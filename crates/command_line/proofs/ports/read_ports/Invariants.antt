use Rattle.std.proofs.Common.{◌≡◌, ◌++◌, map, string_bytes, drop}
use Rattle.std.specs.List.{list_all}
use Rattle.command_line.specs.PortTexts.{is_router_port, port_text}
use Rattle.command_line.proofs.ports.read_ports.Given as goal

-- the ports so far are those of the words so far, and the others are still to come
abbrev pub invariant-loop-word : goal.invariant-loop-word
invariant-loop-word l =
    (map port_text l.ports.items ++ map string_bytes (drop l.word-index l.words) ≡ map string_bytes l.words)
    × (list_all is_router_port (map string_bytes l.words) ≡ list_all is_router_port (map string_bytes (drop l.word-index l.words)))
