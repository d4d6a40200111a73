use Rattle.mav_router.proofs.together.route_all.Goals as goal

pub returns-then-plan : goal.returns-then-plan
returns-then-plan g c = rw c.if-plan.true c.route_one.ensures

pub returns-else-plan : goal.returns-else-plan
returns-else-plan g c = rw c.if-plan.false c.route_threads.ensures
