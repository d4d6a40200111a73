use Rattle.std.proofs.Common.{drop}
use Rattle.mav_log.proofs.RowBytes.{behind_time, old_system, new_system}
use Rattle.mav_log.proofs.filter_teller.system_of.Goals as goal

pub returns-then-frame : goal.returns-then-frame
returns-then-frame c = old_system (drop 8 c.args.bytes.now) _ (behind_time c.args.bytes.now) c.if-frame.true

pub returns-else-frame : goal.returns-else-frame
returns-else-frame c = new_system (drop 8 c.args.bytes.now) _ (behind_time c.args.bytes.now) c.if-frame.false
