use Rattle.drone_sim.proofs.Ticks.{never_falls, at_most_one, same_unless}
use Rattle.drone_sim.proofs.laws.captures_rise_by_one.Goals as goal

pub returns-clause-never_falls : goal.returns-clause-never_falls
returns-clause-never_falls c = never_falls

pub returns-clause-at_most_one : goal.returns-clause-at_most_one
returns-clause-at_most_one c = at_most_one

pub returns-clause-unless : goal.returns-clause-unless
returns-clause-unless c = same_unless
