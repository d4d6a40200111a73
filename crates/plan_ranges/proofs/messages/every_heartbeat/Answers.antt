use Rattle.plan_ranges.proofs.MessageRanges as messages
use Rattle.plan_ranges.proofs.messages.every_heartbeat.Goals as goal

pub returns : goal.returns
returns c = messages.heartbeat_fits
