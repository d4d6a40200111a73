use Rattle.fleet_world.proofs.Leading.{Flowed}
use Rattle.fleet_world.proofs.world.World.flow.Given as goal

abbrev pub invariant-loop-turn : goal.invariant-loop-turn
invariant-loop-turn l = Flowed l.initial.self.frames l.initial.self l._turn l.most l.self l.initial.report l.report
