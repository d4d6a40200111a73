use Rattle.link_table.proofs.Bits.{first_bits}
use Rattle.link_table.proofs.table.first_ports.Goals as goal

pub returns : goal.returns
returns c = λ port from to. first_bits c.args.ports port c.requires.from c.requires.to from to
