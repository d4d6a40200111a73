use Rattle.plan_ranges.proofs.StationRanges as stations
use Rattle.plan_ranges.proofs.stations.every_station.Goals as goal

pub returns-clause-step : goal.returns-clause-step
returns-clause-step c = stations.steps

pub returns-clause-tick : goal.returns-clause-tick
returns-clause-tick c = stations.ticks

pub returns-clause-cancel : goal.returns-clause-cancel
returns-clause-cancel c = stations.cancels

pub returns-clause-told : goal.returns-clause-told
returns-clause-told c = stations.untells
