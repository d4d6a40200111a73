use Rattle.std.proofs.Common.{◌≡◌, ◌+◌, ◌≤◌, drop}
use Rattle.node_reports.specs.Frames.{is_frame}
use Rattle.fleet_world.specs.Counts.{counted}
use Rattle.fleet_world.proofs.events.count_frames.Given as goal

abbrev pub invariant-loop-piece : goal.invariant-loop-piece
invariant-loop-piece l = record {
  few : l.count ≤ l.piece-index;
  rest : l.count + counted is_frame (drop l.piece-index l.news) ≡ counted is_frame l.news;
}
