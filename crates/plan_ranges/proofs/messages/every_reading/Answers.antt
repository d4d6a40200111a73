use Rattle.plan_ranges.proofs.ReadingRanges as readings
use Rattle.plan_ranges.proofs.messages.every_reading.Goals as goal

pub returns : goal.returns
returns c = readings.readings
