use Rattle.std.proofs.Common.{rules, map, string_bytes}
use Rattle.command_line.proofs.NodesHeld.{two_held, not_two, drone_held}
use Rattle.command_line.proofs.nodes.read_drone.Goals.{in_default-via-then-words-lt2, in_default-via-else-words-lt2+else-words-lt3}
use Rattle.command_line.proofs.nodes.read_drone.Goals as goal

pub returns-in_default : goal.returns-in_default
returns-in_default c = not_two c.args.words.now (λ least most. elim c.in_default.branch [ in_default-via-then-words-lt2 w ↦ search rules | in_default-via-else-words-lt2+else-words-lt3 w ↦ search rules ])

pub returns : goal.returns
returns c =
    let words = c.args.words.now in
    drone_held (map string_bytes words) c.as_str.result.now c.as_str-2.result.now c.read_node.result
    (two_held words c.system-item.result c.port-item.result c.as_str.result.now c.as_str-2.result.now c.in-len2.len_at_least c.in-len2.len_below c.system-item.is c.port-item.is c.as_str.ensures.value c.as_str-2.ensures.value)
    c.read_node.ensures
