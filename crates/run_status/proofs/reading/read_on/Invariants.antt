use Rattle.std.proofs.Common.{◌≡◌, ◌≤◌, ◌+◌, ◌-◌, ◌^◌, min}
use Rattle.run_status.proofs.reading.read_on.Given as goal

abbrev pub invariant-loop-turn : goal.invariant-loop-turn
invariant-loop-turn g l = record {
  left : g.S.Source.left l.source ≡ g.S.Source.left l.initial.source;
  faults : g.S.Source.faults l.source ≡ g.S.Source.faults l.initial.source;
  later : g.S.Source.idles l.initial.source ≤ g.S.Source.idles l.source;
  idles : min (g.S.Source.idles l.initial.source + l._turn) (2 ^ 64 - 1) ≤ g.S.Source.idles l.source;
}
