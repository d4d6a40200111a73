use Rattle.std.proofs.Common.{◌≡◌, length}
use Rattle.fleet_world.proofs.Leading.{Given}
use Rattle.fleet_world.proofs.world.World.give_to_all.Given as goal

abbrev pub invariant-loop-index : goal.invariant-loop-index
invariant-loop-index l = record {
  given : Given l.initial.self.frames l.initial.self l.number l.index l.index-end l.self l.initial.report l.report;
  size : l.index-end ≡ length l.self.fleet.nodes;
}
