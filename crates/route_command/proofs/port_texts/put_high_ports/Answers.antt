use Rattle.std.proofs.Common.{◌∙◌, take}
use Rattle.route_command.proofs.PortTexts.{high_put}
use Rattle.route_command.proofs.port_texts.put_high_ports.Goals as goal

pub returns-clause-text : goal.returns-clause-text
returns-clause-text c =
    c.put_part.ensures.text
    ∙ high_put _ (take c.args.at c.args.line.now) c.args.bits c.from.result c.text_bytes.result c.requires.few c.from.ensures c.text_bytes.ensures.size
