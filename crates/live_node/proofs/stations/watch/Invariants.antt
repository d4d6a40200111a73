use Rattle.std.proofs.Common.{List, [], Ok}
use Rattle.node_reports.specs.Nodes.{Node}
use Rattle.live_node.specs.Calls.{LiveCall}
use Rattle.live_node.specs.Ports.{IsRunEnd}
use Rattle.live_node.specs.Runs.{Outside, Ends, outside, stores_of}
use Rattle.live_node.specs.Progress.{Between}
use Rattle.live_node.proofs.Watching.{WatchTaken}
use Rattle.live_node.proofs.stations.watch.Given as goal

abbrev pub invariant-turns : goal.invariant-turns
invariant-turns g l = record {
  taken : (before : g.row.S.Denot) (start : Node) (opening : List LiveCall) (first : Outside) → Between (stores_of g.S.Keeper.faults g.S.Keeper.is_infallible g.S.Keeper.contents) before l.initial.keeper start opening [] [] l.initial.live l.initial.run_log first (outside (g.L.Link.state l.initial.link) (g.K.Sink.sent l.initial.out) (g.C.Clock.always l.initial.clock))
      → WatchTaken (stores_of g.S.Keeper.faults g.S.Keeper.is_infallible g.S.Keeper.contents) before l.keeper l.plan start opening l._at l.live l.run_log first (outside (g.L.Link.state l.link) (g.K.Sink.sent l.out) (g.C.Clock.always l.clock));
  ends : Ends {A = Unit {0}} IsRunEnd (Ok tt) (outside (g.L.Link.state l.initial.link) (g.K.Sink.sent l.initial.out) (g.C.Clock.always l.initial.clock)) (outside (g.L.Link.state l.link) (g.K.Sink.sent l.out) (g.C.Clock.always l.clock)) (g.K.Sink.faults l.initial.out) (g.K.Sink.faults l.out);
}
