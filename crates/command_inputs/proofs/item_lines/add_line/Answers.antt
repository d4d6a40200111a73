use Rattle.command_inputs.proofs.FewItems.{line_permitted}
use Rattle.command_inputs.proofs.item_lines.add_line.Goals as goal

pub add-requires : goal.add-requires
add-requires c = line_permitted _ _ c.args.text.now c.in-Ok.line c.len.ensures c.in-Ok.ensures.ok
