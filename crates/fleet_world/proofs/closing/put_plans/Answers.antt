use Rattle.std.proofs.lemmas.Result.{err_from_is_err_and}
use Rattle.fleet_world.proofs.PlanLines.{plans_put}
use Rattle.plan_items.specs.Plans.{items_of}
use Rattle.fleet_world.proofs.closing.put_plans.Goals as goal

pub returns-in_err-plan : goal.returns-in_err-plan
returns-in_err-plan c = let e = err_from_is_err_and c.from_residual.result c.from_residual.ensures.1 in rw e.1 tt

pub returns-in_err-plan-2 : goal.returns-in_err-plan-2
returns-in_err-plan-2 c = let e = err_from_is_err_and c.from_residual-in_err-plan-2.result c.from_residual-in_err-plan-2.ensures.1 in rw e.1 tt

pub returns : goal.returns
returns c =
    plans_put c.plan-6.result c.args.name c.args.drone.now.plans c.args.report.now c.plan-2.new.self c.plan-4.new.self c.plan-6.new.self
    (items_of c.plan.result.now) (items_of c.plan-3.result.now) (items_of c.plan-5.result.now) c.plan.ensures.items c.plan-3.ensures.items c.plan-5.ensures.items
    c.in_ok-plan.ensures c.in_ok-plan-2.ensures c.plan-6.ensures
