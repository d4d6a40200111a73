use Rattle.drone_sim.proofs.Ranges.{new_fits, acts_fit, changes_fit, ticks_fit}
use Rattle.drone_sim.proofs.laws.stays_in_range.Goals as goal

pub returns-clause-new : goal.returns-clause-new
returns-clause-new c = new_fits

pub returns-clause-act : goal.returns-clause-act
returns-clause-act c = acts_fit

pub returns-clause-change : goal.returns-clause-change
returns-clause-change c = changes_fit

pub returns-clause-tick : goal.returns-clause-tick
returns-clause-tick c = ticks_fit
