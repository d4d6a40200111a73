use Rattle.std.proofs.Common.{drop}
use Rattle.mav_ports.proofs.Known.{sent_take}
use Rattle.mav_links.proofs.writing.write_link.Goals as goal

pub returns-else-write_prefix-bytes-clause-front : goal.returns-else-write_prefix-bytes-clause-front
returns-else-write_prefix-bytes-clause-front g c =
    (drop c.write_prefix.result c.args.bytes.now, sent_take _ _ c.write_prefix.result c.args.bytes.now c.write_prefix.ensures.sent)
