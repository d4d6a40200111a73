use Rattle.fleet_invariants.proofs.Lines as lines
use Rattle.fleet_invariants.proofs.steps.every_line.Goals as goal

pub returns : goal.returns
returns c = lines.sound_line
