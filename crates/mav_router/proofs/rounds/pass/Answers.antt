use Rattle.std.proofs.Common.{◌∙◌}
use Rattle.mav_router.proofs.TurnSteps.{once_kept}
use Rattle.mav_router.proofs.rounds.pass.Goals as goal

pub returns-in-Ok-clause-rules : goal.returns-in-Ok-clause-rules
returns-in-Ok-clause-rules g c = c.write_each_now.ensures.rules ∙ c.read_each.ensures.rules

pub returns-in-Ok-clause-so_far : goal.returns-in-Ok-clause-so_far
returns-in-Ok-clause-so_far g c = λ rules first run. c.write_each_now.ensures.so_far rules first (c.in-Ok.ensures.so_far rules first run)

pub returns-in-Ok-clause-turns : goal.returns-in-Ok-clause-turns
returns-in-Ok-clause-turns g c = λ least k within had.
    c.write_each_now.ensures.turns c.args.most least k within (c.in-Ok.ensures.turns least k within had)

pub returns-in-Ok-clause-turned : goal.returns-in-Ok-clause-turned
returns-in-Ok-clause-turned g c =
    once_kept c.args.most c.args.asked c.args.lanes.now c.read_each.new.lanes c.write_each_now.new.lanes c.in-Ok.ensures.turned (c.write_each_now.ensures.turns c.args.most)
