use Rattle.std.proofs.Common.{ℕ, ◌+◌, ◌-◌, ◌≤◌, ◌++◌, List, length, take}
use Rattle.mav_frame.specs.declared.events.Event.{Event}
use Rattle.mav_nodes.specs.Steps.{Side, IsNode}
use Rattle.mav_nodes.specs.Stores.{Holds, Serves, HasFailed}
use Rattle.mav_nodes.specs.Cores.{rules_of}
use Rattle.mav_nodes.specs.Streams.{HasRead}
use Rattle.mav_nodes.proofs.Parts.{PartTo}
use Rattle.mav_nodes.proofs.node.part.Given as goal

abbrev pub invariant-reading : goal.invariant-reading
invariant-reading g l = record {
  within : l.place ≤ length l.piece;
  serves : Serves g.K.Keeper.faults g.K.Keeper.is_infallible l.initial.keeper l.keeper;
  stored : Holds (g.K.Keeper.contents l.initial.keeper) (g.C.Core.stored l.initial.core) l.initial.link.low → Holds (g.K.Keeper.contents l.keeper) (g.C.Core.stored l.core) l.link.low;
  heard : (node : Side g.row.C.Denot g.row.V.Denot) (taken : List ℕ) (given : List Event) → IsNode node l.initial.link l.initial.core l.initial.services → HasRead taken given l.initial.link → PartTo (rules_of g.C.Core.taken g.V.Services.noted g.V.Services.served) l.clock l.initial.link.endpoint.extras node (taken ++ take l.place l.piece) given (HasFailed g.K.Keeper.faults g.K.Keeper.is_infallible l.initial.keeper l.keeper) l.link l.core l.services l.news.items;
}

abbrev pub decreases-reading : goal.decreases-reading
decreases-reading g l = length l.link.endpoint.held + (length l.piece - l.place)
