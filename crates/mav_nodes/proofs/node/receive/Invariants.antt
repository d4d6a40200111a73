use Rattle.std.proofs.Common.{◌-◌, ◌≤◌, length, drop, None}
use Rattle.mav_nodes.specs.Steps.{Side, IsNode}
use Rattle.mav_nodes.specs.Stores.{Holds, HasFailed}
use Rattle.mav_nodes.specs.Cores.{rules_of}
use Rattle.mav_nodes.specs.Promises.{LinkKeeps}
use Rattle.mav_nodes.proofs.Datagrams.{HeardTo}
use Rattle.mav_nodes.proofs.node.receive.Given as goal

abbrev pub invariant-loop-place : goal.invariant-loop-place
invariant-loop-place g l = record {
  within : l.place ≤ length l.datagram;
  keeps : LinkKeeps None (Holds (g.K.Keeper.contents l.initial.keeper) (g.C.Core.stored l.initial.core) l.initial.link.low) (Holds (g.K.Keeper.contents l.keeper) (g.C.Core.stored l.core) l.link.low) (Unit {0}) l.initial.link l.link g.K.Keeper.faults g.K.Keeper.is_infallible l.initial.keeper l.keeper;
  heard : (node : Side g.row.C.Denot g.row.V.Denot) → IsNode node l.initial.link l.initial.core l.initial.services → HeardTo (rules_of g.C.Core.taken g.V.Services.noted g.V.Services.served) l.clock node l.datagram (drop l.place l.datagram) (λ n. IsNode n l.link l.core l.services) (HasFailed g.K.Keeper.faults g.K.Keeper.is_infallible l.initial.keeper l.keeper) l.news.items;
}

abbrev pub decreases-loop-place : goal.decreases-loop-place
decreases-loop-place g l = length l.datagram - l.place
