use Rattle.std.proofs.Common.{◌∙◌, ◌-◌, sym, length}
use Rattle.relay_queue.specs.Queues.{size_of}
use Rattle.relay_queue.proofs.Frames.{over_is, some_over}
use Rattle.relay_queue.proofs.backlog.Backlog.is_over.Goals as goal

pub returns-clause-over : goal.returns-clause-over
returns-clause-over c = over_is (length c.args.self.now.begun) (size_of c.args.self.now.waiting) c.len.result c.len.ensures.part c.len.ensures.size

pub returns-clause-some : goal.returns-clause-some
returns-clause-some c = λ over. some_over c.args.self.now.waiting (1048576 - length c.args.self.now.begun) (sym (returns-clause-over c) ∙ over)
