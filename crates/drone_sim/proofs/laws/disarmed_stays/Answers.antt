use Rattle.drone_sim.proofs.Ticks.{home_stays}
use Rattle.drone_sim.proofs.laws.disarmed_stays.Goals as goal

pub returns-clause-home : goal.returns-clause-home
returns-clause-home c = home_stays
