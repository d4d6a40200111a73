use Rattle.std.proofs.Common.{◌-◌, ◌≤◌, length, drop, None}
use Rattle.mav_nodes.specs.Links.{Link as LinkState, IsLink, sends_all}
use Rattle.mav_nodes.specs.Stores.{Holds, HoldsFrom}
use Rattle.mav_nodes.specs.Promises.{LinkKeeps}
use Rattle.mav_nodes.proofs.SendsAll.{SentSoFar}
use Rattle.mav_nodes.proofs.link.Link.send_all.Given as goal

abbrev pub invariant-loop-index : goal.invariant-loop-index
invariant-loop-index g l = record {
  within : l.index ≤ length l.messages;
  keeps : LinkKeeps None (Holds (g.K.Keeper.contents l.initial.keeper) (g.C.Core.stored l.core) l.initial.self.low) (Holds (g.K.Keeper.contents l.keeper) (g.C.Core.stored l.core) l.self.low) (HoldsFrom (g.K.Keeper.contents l.keeper) (g.C.Core.stored l.core) l.self.low) l.initial.self l.self g.K.Keeper.faults g.K.Keeper.is_infallible l.initial.keeper l.keeper;
  sent : (link : LinkState) → IsLink link l.initial.self → SentSoFar l.clock (sends_all l.clock l.messages link) (drop l.index l.messages) l.self l.initial.news.items l.news.items;
}

abbrev pub decreases-loop-index : goal.decreases-loop-index
decreases-loop-index g l = length l.messages - l.index
