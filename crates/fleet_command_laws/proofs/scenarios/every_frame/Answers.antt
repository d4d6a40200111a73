use Rattle.fleet_command_laws.proofs.Frames as frames
use Rattle.fleet_command_laws.proofs.scenarios.every_frame.Goals as goal

pub returns : goal.returns
returns c = frames.every_frame
