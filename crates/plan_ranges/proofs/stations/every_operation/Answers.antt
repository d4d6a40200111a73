use Rattle.plan_ranges.proofs.StationRanges as stations
use Rattle.plan_ranges.proofs.stations.every_operation.Goals as goal

pub returns-clause-upload : goal.returns-clause-upload
returns-clause-upload c = stations.uploads

pub returns-clause-clear : goal.returns-clause-clear
returns-clause-clear c = stations.clears

pub returns-clause-get : goal.returns-clause-get
returns-clause-get c = stations.gets
