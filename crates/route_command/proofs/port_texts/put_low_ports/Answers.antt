use Rattle.std.proofs.Common.{◌∙◌, take}
use Rattle.route_command.proofs.PortTexts.{low_put}
use Rattle.route_command.proofs.port_texts.put_low_ports.Goals as goal

pub returns-clause-text : goal.returns-clause-text
returns-clause-text c =
    c.put_part.ensures.text
    ∙ low_put _ (take c.args.at c.args.line.now) c.args.bits c.from.result c.text_bytes.result c.requires.few c.from.ensures c.text_bytes.ensures.size
