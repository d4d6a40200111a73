use Rattle.link_table.proofs.OpenLearning.{opened}
use Rattle.link_table.proofs.open_table.OpenTable.open.Goals as goal

pub returns : goal.returns
returns c = λ links of. opened c.args.self.now links of
