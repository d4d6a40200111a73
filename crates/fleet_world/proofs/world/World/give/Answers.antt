use Rattle.fleet_world.proofs.WorldCalls.{give_rests, give_outcome, give_error}
use Rattle.fleet_world.proofs.world.World.give.Goals as goal

pub returns-then-is_sender-clause-done : goal.returns-then-is_sender-clause-done
returns-then-is_sender-clause-done c = λ state packet is found.
    give_rests _ c.args.self.now _ c.args.number _ c.args.report.now state packet _ c.if-is_sender.true (c.is_sender.ensures state packet is found) is

pub returns-clause-done : goal.returns-clause-done
returns-clause-done c = give_outcome _ _ _ _ _ _ _ _ c.if-is_sender.false c.is_sender.ensures c.call_at.ensures.done

pub returns-clause-error : goal.returns-clause-error
returns-clause-error c = give_error _ c.args.self.now _ _ c.args.report.now c.args.report.now _ _ c.if-is_sender.false c.is_sender.ensures c.call_at.ensures.error
