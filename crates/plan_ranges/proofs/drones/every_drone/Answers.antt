use Rattle.plan_ranges.proofs.DroneRanges as drones
use Rattle.plan_ranges.proofs.drones.every_drone.Goals as goal

pub returns-clause-step : goal.returns-clause-step
returns-clause-step c keeps d s m h from a = drones.steps keeps s from d m h a

pub returns-clause-tick : goal.returns-clause-tick
returns-clause-tick c = drones.ticks
