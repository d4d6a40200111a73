use Rattle.std.proofs.Common.{ap, ◌∙◌}
use Rattle.fleet_world.specs.WorldView.{WorldView}
use Rattle.fleet_world.proofs.Restarting.{restart_at_done, restart_at_error}
use Rattle.fleet_world.proofs.world.World.restart_at.Goals as goal

pub returns-clause-done : goal.returns-clause-done
returns-clause-done c =
    restart_at_done c.args.self.now _ _ c.args.index c.args.drone _ _ _ (c.key.ensures ∙ ap (λ (z : WorldView). z.fleet.key) c.self.view_is) c.in_ok-add.ensures c.call_at.result c.call_at.ensures.done

pub returns-clause-error : goal.returns-clause-error
returns-clause-error c =
    restart_at_error c.args.self.now c.args.self.now _ c.args.index c.args.drone _ _ c.add.new.self (c.key.ensures ∙ ap (λ (z : WorldView). z.fleet.key) c.self.view_is) c.in_ok-add.ensures c.call_at.result c.call_at.ensures.error
