use Rattle.plan_ranges.proofs.MessageRanges as messages
use Rattle.plan_ranges.proofs.messages.every_message.Goals as goal

pub returns-clause-fits : goal.returns-clause-fits
returns-clause-fits c = messages.fits

pub returns-clause-carried : goal.returns-clause-carried
returns-clause-carried c = messages.carried

pub returns-clause-signs : goal.returns-clause-signs
returns-clause-signs c = messages.signs
