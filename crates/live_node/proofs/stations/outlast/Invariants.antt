use Rattle.std.proofs.Common.{List, [], Ok}
use Rattle.node_reports.specs.Nodes.{Node}
use Rattle.live_node.specs.Calls.{LiveCall}
use Rattle.live_node.specs.Turns.{Turn}
use Rattle.live_node.specs.Ports.{IsRunEnd}
use Rattle.live_node.specs.Runs.{Outside, Ends, outside, stores_of}
use Rattle.live_node.specs.Progress.{PortEnded}
use Rattle.live_node.specs.Stations.{Awaited}
use Rattle.live_node.proofs.Watching.{OutlastTaken}
use Rattle.live_node.proofs.stations.outlast.Given as goal

abbrev pub invariant-ticks : goal.invariant-ticks
invariant-ticks g l = record {
  taken : (before : g.row.S.Denot) (start : Node) (opening : List LiveCall) (turns : List Turn) (first : Outside) → PortEnded (stores_of g.S.Keeper.faults g.S.Keeper.is_infallible g.S.Keeper.contents) before l.initial.keeper start opening turns [] l.initial.live l.initial.run_log first (outside (g.L.Link.state l.initial.link) (g.K.Sink.sent l.initial.out) (g.C.Clock.always l.initial.clock)) → Awaited l.most start opening turns []
      → OutlastTaken (stores_of g.S.Keeper.faults g.S.Keeper.is_infallible g.S.Keeper.contents) before l.keeper l.most start opening turns l._at l.live l.run_log first (outside (g.L.Link.state l.link) (g.K.Sink.sent l.out) (g.C.Clock.always l.clock));
  ends : Ends {A = Unit {0}} IsRunEnd (Ok tt) (outside (g.L.Link.state l.initial.link) (g.K.Sink.sent l.initial.out) (g.C.Clock.always l.initial.clock)) (outside (g.L.Link.state l.link) (g.K.Sink.sent l.out) (g.C.Clock.always l.clock)) (g.K.Sink.faults l.initial.out) (g.K.Sink.faults l.out);
}
