use Rattle.std.proofs.Common.{◌∙◌}
use Rattle.mav_router.proofs.routing.run_rounds.Goals as goal

pub returns-clause-rules : goal.returns-clause-rules
returns-clause-rules g c = c.write_each.ensures.rules ∙ c.run_ports.ensures.rules

pub returns-clause-so_far : goal.returns-clause-so_far
returns-clause-so_far g c = λ rules first run.
    c.write_each.ensures.so_far rules first (c.in_default.ensures.so_far rules first (c.join_rests.ensures.kept _ _ rules first run))

pub returns-clause-turned : goal.returns-clause-turned
returns-clause-turned g c = c.write_each.ensures.turned c.args.turns c.in_default.ensures.turned

pub returns-in-Err-clause-stopped : goal.returns-in-Err-clause-stopped
returns-in-Err-clause-stopped g c = λ rules first run.
    c.in-Err.ensures.stopped rules first (c.join_rests.ensures.kept _ _ rules first run)
