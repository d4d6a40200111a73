use Rattle.std.proofs.Common.{◌≡◌}
use Rattle.log_rows.proofs.Turns.{Waiting}
use Rattle.log_rows.proofs.replay.ReplayLink.read.Given as goal

abbrev pub invariant-loop-read : goal.invariant-loop-read
invariant-loop-read g l = record {
  waits : Waiting l._read l.fn.self.rows l.self.rows (g.L.Link.state l.fn.self.link) (g.L.Link.state l.self.link);
  idles : l.self.idles ≡ l.fn.self.idles;
  over : l.self.over ≡ l.fn.self.over;
}
