use Rattle.fleet_invariants.proofs.Plays as plays
use Rattle.fleet_invariants.proofs.states.every_state.Goals as goal

pub returns-clause-whole : goal.returns-clause-whole
returns-clause-whole c = plays.sound_state

pub returns-clause-lines : goal.returns-clause-lines
returns-clause-lines c = plays.sound_lines
