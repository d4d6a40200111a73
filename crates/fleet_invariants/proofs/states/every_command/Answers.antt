use Rattle.fleet_invariants.proofs.CommandRooms as rooms
use Rattle.fleet_invariants.proofs.states.every_command.Goals as goal

pub returns : goal.returns
returns c = rooms.commands_have_room
