use Rattle.param_proto.proofs.ListLaws.{every_value}
use Rattle.param_proto.proofs.laws.every_value.Goals as goal

pub returns : goal.returns
returns c = every_value
