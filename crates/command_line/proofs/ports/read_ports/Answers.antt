use Rattle.std.proofs.Common.{subst, arith}
use Rattle.command_line.specs.PortTexts.{IsRead, is_router_port, port_text}
use Rattle.command_line.proofs.PortLists.{none_done, one_more, not_one, all_done}
use Rattle.command_line.proofs.ports.read_ports.Goals as goal

pub loop-word-init : goal.loop-word-init
loop-word-init c = none_done c.args.words.now c.new-ports.result.items c.new-ports.ensures.items

pub returns-in-None : goal.returns-in-None
returns-in-None c =
    not_one c.args.words.now c.loop-word.word-index c.loop-word.ports.items c.word-item.result c.as_str.result.now (omega arith) c.word-item.is c.as_str.ensures.value c.loop-word.invariant
    (subst (IsRead port_text (is_router_port c.as_str.result.now) c.as_str.result.now) c.in-None.is c.in_ok-port.ensures)

pub loop-word-preserved : goal.loop-word-preserved
loop-word-preserved c =
    one_more c.args.words.now c.loop-word.word-index c.loop-word.ports.items c.word-item.result c.as_str.result.now (omega arith) c.word-item.is c.as_str.ensures.value c.loop-word.invariant
    _ c.in-Some.port (subst (IsRead port_text (is_router_port c.as_str.result.now) c.as_str.result.now) c.in-Some.is c.in_ok-port.ensures) c.in_ok-push-in-Some.ensures.items

pub returns : goal.returns
returns c = all_done c.args.words.now c.loop-word.word-index c.loop-word.ports.items (omega arith) c.loop-word.invariant
