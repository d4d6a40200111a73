use Rattle.drone_sim.proofs.Ticks.{waits, goes_on}
use Rattle.drone_sim.proofs.laws.every_item_in_turn.Goals as goal

pub returns-clause-waits : goal.returns-clause-waits
returns-clause-waits c = waits

pub returns-clause-goes_on : goal.returns-clause-goes_on
returns-clause-goes_on c = goes_on
