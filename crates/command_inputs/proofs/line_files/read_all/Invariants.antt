use Rattle.std.proofs.Common.{◌≡◌, ◌≤◌, ℕ, List}
use Rattle.std.specs.Io.KnownBytes.{prepend_known}
use Rattle.command_inputs.specs.ByteByByte.{Fed, budget}
use Rattle.command_inputs.proofs.line_files.read_all.Given as goal

abbrev pub invariant-loop-count : goal.invariant-loop-count
invariant-loop-count g l = record {
  reading : (taken : List ℕ) × (g.S.Source.left l.initial.input ≡ prepend_known taken (g.S.Source.left l.input))
      × Fed g.T.LineTaker.says taken l.initial.taker l.initial.held l.taker l.held;
  faults : g.S.Source.faults l.input ≡ g.S.Source.faults l.initial.input;
  idles : g.S.Source.idles l.initial.input ≤ g.S.Source.idles l.input;
}

abbrev pub decreases-loop-count : goal.decreases-loop-count
decreases-loop-count g l = budget l.held
