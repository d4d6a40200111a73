use Rattle.mav_ports.proofs.Known.{sent_take}
use Rattle.live_node.proofs.sending.write.Goals as goal

pub returns-else-write_prefix-bytes-clause-prefix :
    goal.returns-else-write_prefix-bytes-clause-prefix
returns-else-write_prefix-bytes-clause-prefix g c = (_, sent_take _ _ _ _ c.write_prefix.ensures.sent)
