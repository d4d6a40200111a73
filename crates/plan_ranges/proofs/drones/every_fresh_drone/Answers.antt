use Rattle.plan_ranges.proofs.DroneRanges as drones
use Rattle.plan_ranges.proofs.drones.every_fresh_drone.Goals as goal

pub returns-clause-first : goal.returns-clause-first
returns-clause-first c = drones.fresh

pub returns-clause-again : goal.returns-clause-again
returns-clause-again c = drones.again
