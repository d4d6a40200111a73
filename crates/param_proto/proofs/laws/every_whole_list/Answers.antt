use Rattle.param_proto.proofs.ListLaws.{every_count, every_whole}
use Rattle.param_proto.proofs.laws.every_whole_list.Goals as goal

pub returns : goal.returns
returns c = record { count = every_count; values = every_whole }
