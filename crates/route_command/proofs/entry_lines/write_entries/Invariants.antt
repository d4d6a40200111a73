use Rattle.std.proofs.Common.{◌≡◌, ◌++◌, ℕ, List, drop}
use Rattle.std.specs.declared.option.Option.{Option}
use Rattle.mav_ports.specs.Puts.{Sent}
use Rattle.route_command.specs.Texts.{entry_lines}
use Rattle.route_command.proofs.entry_lines.write_entries.Given as goal

abbrev pub invariant-loop-at : goal.invariant-loop-at
invariant-loop-at g l = record {
  sent : (before : Option (List ℕ)) (whole rest : List ℕ)
      → Sent before (g.K.Sink.sent l.initial.out) whole (l.initial.lines.items ++ (entry_lines l.journal ++ rest))
      → Sent before (g.K.Sink.sent l.out) whole (l.lines.items ++ (entry_lines (drop l.at l.journal) ++ rest));
  refusals : g.K.Sink.faults l.out ≡ g.K.Sink.faults l.initial.out;
}
