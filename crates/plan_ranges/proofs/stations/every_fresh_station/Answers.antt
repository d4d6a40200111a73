use Rattle.plan_ranges.proofs.StationRanges as stations
use Rattle.plan_ranges.proofs.stations.every_fresh_station.Goals as goal

pub returns : goal.returns
returns c = stations.fresh
