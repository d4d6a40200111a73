use Rattle.std.proofs.Common.{◌≡◌, ◌≤◌, ◌-◌, length}
use Rattle.std.specs.Io.KnownBytes.{prepend_known}
use Rattle.dialect_command.specs.Spec.{most_definition_bytes}
use Rattle.dialect_command.proofs.definitions.read_all.Given as goal

abbrev pub invariant-loop-count : goal.invariant-loop-count
invariant-loop-count g l = record {
  took : g.S.Source.left l.initial.input ≡ prepend_known l.bytes.items (g.S.Source.left l.input);
  fits : length l.bytes.items ≤ most_definition_bytes;
  faults : g.S.Source.faults l.input ≡ g.S.Source.faults l.initial.input;
  idles : g.S.Source.idles l.initial.input ≤ g.S.Source.idles l.input;
}

abbrev pub decreases-loop-count : goal.decreases-loop-count
decreases-loop-count g l = most_definition_bytes - length l.bytes.items
