use Rattle.relay_queue.proofs.Limits.{push_few}
use Rattle.relay_queue.proofs.queue.Queue.push.Goals as goal

pub invariant_of-self : goal.invariant_of-self
invariant_of-self c = push_few c.args.frame.now c.self.inside.frames c.push.new.self c.push.result c.self.invariant c.push.ensures.queue c.push.ensures.unchanged
