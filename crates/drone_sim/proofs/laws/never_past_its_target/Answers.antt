use Rattle.drone_sim.proofs.Ways.{goes, rests}
use Rattle.drone_sim.proofs.laws.never_past_its_target.Goals as goal

pub returns-clause-moves : goal.returns-clause-moves
returns-clause-moves c = goes

pub returns-clause-stays : goal.returns-clause-stays
returns-clause-stays c = rests
