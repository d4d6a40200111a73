use Rattle.param_proto.proofs.ListLaws.{every_end}
use Rattle.param_proto.proofs.laws.every_end.Goals as goal

pub returns : goal.returns
returns c = every_end
