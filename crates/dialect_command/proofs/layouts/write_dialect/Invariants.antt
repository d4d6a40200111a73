use Rattle.std.proofs.Common.{◌≡◌, ◌++◌, length, drop}
use Rattle.std.specs.List.{flat_map}
use Rattle.mav_ports.specs.Puts.{Sent}
use Rattle.mav_text.specs.LayoutText.{layout_text, dialect_text}
use Rattle.dialect_command.specs.Writes.{count_line}
use Rattle.dialect_command.proofs.layouts.write_dialect.Given as goal

abbrev pub invariant-loop-place : goal.invariant-loop-place
invariant-loop-place g l = record {
  sent : Sent (g.K.Sink.sent l.initial.out) (g.K.Sink.sent l.out) (dialect_text l.dialect) (flat_map layout_text (drop l.place l.dialect) ++ count_line (length l.dialect));
  refusals : g.K.Sink.faults l.out ≡ g.K.Sink.faults l.initial.out;
}
