use Rattle.std.proofs.Common.{◌∙◌, sym}
use Rattle.command_line.specs.Forms.{is_named}
use Rattle.command_line.proofs.FormsAgree.{list_any_map}
use Rattle.command_line.proofs.forms.has_given.Goals as goal

pub returns : goal.returns
returns c = c.is_any_named.ensures ∙ sym (list_any_map (is_named c.args.name) c.args.settings.now)
