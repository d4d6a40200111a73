use Rattle.std.proofs.Common.{length, ap, ◌∙◌}
use Rattle.fleet_world.specs.WorldView.{WorldView}
use Rattle.fleet_world.proofs.WorldCalls.{deliver_outcome, deliver_error, deliver_none}
use Rattle.fleet_world.proofs.world.World.deliver.Goals as goal

pub returns-then-index-len-clause-done : goal.returns-then-index-len-clause-done
returns-then-index-len-clause-done c =
    deliver_outcome _ c.args.self.now _ _ _ _ _ _ _ c.saturating_sub-index.ensures (c.len.ensures ∙ ap (λ (z : WorldView). length z.sent) c.self.view_is) c.if-index-len.true c.call.ensures.done

pub returns-then-index-len-clause-error : goal.returns-then-index-len-clause-error
returns-then-index-len-clause-error c =
    deliver_error _ c.args.self.now _ _ _ _ c.saturating_sub-index.ensures (c.len.ensures ∙ ap (λ (z : WorldView). length z.sent) c.self.view_is) c.if-index-len.true c.call.ensures.error

pub returns-clause-done : goal.returns-clause-done
returns-clause-done c = λ state is.
    deliver_none state c.args.self.now _ _ _ _ _ _ c.saturating_sub-index.ensures (c.len.ensures ∙ ap (λ (z : WorldView). length z.sent) c.self.view_is) c.if-index-len.false is c.in_ok-add.ensures
