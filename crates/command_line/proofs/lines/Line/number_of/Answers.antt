use Rattle.std.proofs.Common.{◌∙◌, sym, ap, option_map}
use Rattle.command_line.specs.Names.{number_of}
use Rattle.command_line.proofs.FormsAgree.{held_value, value_map}
use Rattle.command_line.proofs.lines.Line.number_of.Goals as goal

pub returns-in-Some : goal.returns-in-Some
returns-in-Some c =
    let found = rw c.deref.ensures.value at c.in-Some.ensures in
    c.in-Some.setting.now.is ∙ ap number_of (ap (option_map held_value) found ∙ sym (value_map c.args.name c.args.self.now.settings.items))

pub returns-in-None : goal.returns-in-None
returns-in-None c =
    let found = rw c.deref.ensures.value at c.in-None.ensures in
    ap number_of (ap (option_map held_value) found ∙ sym (value_map c.args.name c.args.self.now.settings.items))
