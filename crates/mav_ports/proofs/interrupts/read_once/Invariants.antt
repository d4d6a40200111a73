use Rattle.std.specs.Io.KnownBytes.{Keeps}
use Rattle.mav_ports.proofs.interrupts.read_once.Given as goal

abbrev pub invariant-loop-repeat : goal.invariant-loop-repeat
invariant-loop-repeat g l = record {
  kept : Keeps (g.R.Read.remaining l.initial.reader) (g.R.Read.remaining l.reader);
}
