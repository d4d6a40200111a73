use Rattle.std.proofs.Common.{◌≡◌, ◌≤◌, ◌-◌, length, take}
use Rattle.std.specs.Io.KnownBytes.{prepend_known}
use Rattle.command_inputs.proofs.key_inputs.read_all.Given as goal

abbrev pub invariant-loop-count : goal.invariant-loop-count
invariant-loop-count g l = record {
  within : l.count ≤ 67;
  size : length l.buf ≡ 67;
  took : g.S.Source.left l.initial.input ≡ prepend_known (take l.count l.buf) (g.S.Source.left l.input);
  faults : g.S.Source.faults l.input ≡ g.S.Source.faults l.initial.input;
  idles : g.S.Source.idles l.initial.input ≤ g.S.Source.idles l.input;
}

abbrev pub decreases-loop-count : goal.decreases-loop-count
decreases-loop-count g l = 67 - l.count
