use Rattle.fleet_invariants.proofs.Readings as readings
use Rattle.fleet_invariants.proofs.steps.every_read_line.Goals as goal

pub returns : goal.returns
returns c = readings.read_fits
