use Rattle.fleet_world.proofs.Leading.{Flown}
use Rattle.fleet_world.proofs.world.World.fly.Given as goal

abbrev pub invariant-loop-turn : goal.invariant-loop-turn
invariant-loop-turn l = Flown l.initial.self.frames l.initial.self l.drone l._turn l.ticks l.self l.initial.report l.report
