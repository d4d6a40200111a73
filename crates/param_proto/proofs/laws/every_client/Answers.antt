use Rattle.param_proto.proofs.ClientRanges.{reads_in_range, sets_in_range, lists_in_range, step_in_range, tick_in_range}
use Rattle.param_proto.proofs.laws.every_client.Goals as goal

pub returns : goal.returns
returns c = record { read = reads_in_range; set = sets_in_range; list = lists_in_range; step = step_in_range; tick = tick_in_range }
