use Rattle.std.proofs.Common.{take, refl}
use Rattle.route_command.proofs.PortTexts.{ports_of_bits}
use Rattle.route_command.proofs.port_texts.put_further_ports.Goals as goal

pub returns-clause-text : goal.returns-clause-text
returns-clause-text c =
    let low = c.put_low_ports-end in
    let high = c.put_high_ports in
    ports_of_bits c.args.ways c.mask-mask.result _ _ (take c.args.at c.args.line.now) (take low.result low.new.line) (take high.result high.new.line) refl refl c.mask-mask.ensures low.ensures.text high.ensures.text
