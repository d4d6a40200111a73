use Rattle.std.proofs.Common.{◌≡◌, length}
use Rattle.fleet_world.proofs.Closings.{Closed}
use Rattle.fleet_world.proofs.fleet.Fleet.close.Given as goal

abbrev pub invariant-loop-index : goal.invariant-loop-index
invariant-loop-index l = record {
  size : l.index-end ≡ length l.self.nodes;
  closed : Closed l.self l.index l.initial.report l.report;
}
