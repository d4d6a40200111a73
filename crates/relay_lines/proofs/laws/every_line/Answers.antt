use Rattle.relay_lines.proofs.Ends.{tells_next}
use Rattle.relay_lines.proofs.Told.{tells_all, tells_put, tells_room, tells_wrote, tells_new}
use Rattle.relay_lines.proofs.laws.every_line.Goals as goal

pub returns-clause-new : goal.returns-clause-new
returns-clause-new c = tells_new

pub returns-clause-put : goal.returns-clause-put
returns-clause-put c = tells_put

pub returns-clause-wrote : goal.returns-clause-wrote
returns-clause-wrote c = tells_wrote

pub returns-clause-next : goal.returns-clause-next
returns-clause-next c = tells_next

pub returns-clause-all : goal.returns-clause-all
returns-clause-all c = tells_all

pub returns-clause-room : goal.returns-clause-room
returns-clause-room c = tells_room
