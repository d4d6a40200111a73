use Rattle.std.proofs.Common.{◌∙◌, refl, sym, map, string_bytes}
use Rattle.std.proofs.lemmas.Result.{err_from_is_err_and}
use Rattle.command_line.proofs.NodesHeld.{four_held, not_four, no_task, station_held}
use Rattle.command_line.proofs.nodes.read_station.Goals as goal

pub returns-in_default : goal.returns-in_default
returns-in_default c = not_four c.args.file_given c.args.words.now c.in_default.len_below

pub returns-in_err-task : goal.returns-in_err-task
returns-in_err-task c = let e = err_from_is_err_and c.from_residual.result c.from_residual.ensures.1 in rw e.1 tt

pub returns-in_default-2 : goal.returns-in_default-2
returns-in_default-2 c =
    let words = c.args.words.now in
    no_task c.args.file_given (map string_bytes words) (string_bytes c.system-item.result) c.as_str.result.now c.as_str-2.result.now _ _
    (four_held words c.system-item.result c.component-item.result c.drone-item.result c.port-item.result (string_bytes c.system-item.result) c.as_str.result.now c.as_str-2.result.now (string_bytes c.port-item.result)
    c.in-len4-up.len_at_least c.system-item.is c.component-item.is c.drone-item.is c.port-item.is refl c.as_str.ensures.value c.as_str-2.ensures.value refl)
    (sym c.in_default-2.is ∙ c.in_ok-task.ensures)

pub returns : goal.returns
returns c =
    let words = c.args.words.now in
    station_held c.args.file_given (map string_bytes words) c.as_str-3.result.now c.as_str.result.now c.as_str-2.result.now c.as_str-4.result.now _ c.in-Some.task c.read_node.result
    (four_held words c.system-item.result c.component-item.result c.drone-item.result c.port-item.result c.as_str-3.result.now c.as_str.result.now c.as_str-2.result.now c.as_str-4.result.now
    c.in-len4-up.len_at_least c.system-item.is c.component-item.is c.drone-item.is c.port-item.is c.as_str-3.ensures.value c.as_str.ensures.value c.as_str-2.ensures.value c.as_str-4.ensures.value)
    (sym c.in-Some.is ∙ c.in_ok-task.ensures) c.read_node.ensures
