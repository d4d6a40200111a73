use Rattle.relay_queue.proofs.Deliveries.{delivers_bytes, delivers_closed, delivers_new, delivers_push, delivers_wrote}
use Rattle.relay_queue.proofs.laws.deliveries.Goals as goal

pub returns-clause-new : goal.returns-clause-new
returns-clause-new c = delivers_new

pub returns-clause-pushed : goal.returns-clause-pushed
returns-clause-pushed c = delivers_push

pub returns-clause-wrote : goal.returns-clause-wrote
returns-clause-wrote c = delivers_wrote

pub returns-clause-closed : goal.returns-clause-closed
returns-clause-closed c = delivers_closed

pub returns-clause-bytes : goal.returns-clause-bytes
returns-clause-bytes c = delivers_bytes
