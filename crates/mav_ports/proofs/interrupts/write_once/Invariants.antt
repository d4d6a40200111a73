use Rattle.std.specs.Io.KnownBytes.{Keeps}
use Rattle.mav_ports.proofs.interrupts.write_once.Given as goal

abbrev pub invariant-loop-repeat : goal.invariant-loop-repeat
invariant-loop-repeat g l = record {
  kept : Keeps (g.W.Write.contents l.initial.writer) (g.W.Write.contents l.writer);
}
