use Rattle.param_proto.proofs.ParamRanges.{server_starts, server_stays, server_taken}
use Rattle.param_proto.proofs.laws.every_server.Goals as goal

pub returns : goal.returns
returns c = record { new = server_starts; step = server_stays; taken = server_taken }
