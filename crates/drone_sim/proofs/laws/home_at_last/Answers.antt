use Rattle.drone_sim.proofs.Homewards.{home_at_last}
use Rattle.drone_sim.proofs.laws.home_at_last.Goals as goal

pub returns : goal.returns
returns c = home_at_last
