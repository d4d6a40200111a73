use Rattle.param_proto.proofs.ListLaws.{idle_message, idle_tick}
use Rattle.param_proto.proofs.laws.every_idle_client.Goals as goal

pub returns : goal.returns
returns c = record { message = idle_message; tick = idle_tick }
