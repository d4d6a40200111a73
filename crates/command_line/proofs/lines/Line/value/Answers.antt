use Rattle.std.proofs.Common.{◌∙◌, sym, ap, Some, option_map}
use Rattle.command_line.proofs.FormsAgree.{held_value, value_map}
use Rattle.command_line.proofs.lines.Line.value.Goals as goal

pub returns-in_ok-from_str-in-Some : goal.returns-in_ok-from_str-in-Some
returns-in_ok-from_str-in-Some c =
    let found = rw c.deref.ensures.value at c.in-Some.ensures in
    ap Some (c.in_ok-from_str-in-Some.ensures.ok ∙ c.as_str.ensures.value) ∙ ap (option_map held_value) found ∙ sym (value_map c.args.name c.args.self.now.settings.items)

pub returns-in-None : goal.returns-in-None
returns-in-None c =
    let found = rw c.deref.ensures.value at c.in-None.ensures in
    ap (option_map held_value) found ∙ sym (value_map c.args.name c.args.self.now.settings.items)
