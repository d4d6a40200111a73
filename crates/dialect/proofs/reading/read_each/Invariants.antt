use Rattle.std.proofs.Common.{◌≡◌, ◌+◌, length, map, drop}
use Rattle.serde_json.specs.View.{view}
use Rattle.dialect.specs.Grammar.{definitions_behind}
use Rattle.dialect.proofs.reading.read_each.Given as goal

-- the messages that were read and the rest are all
abbrev pub invariant-loop-value : goal.invariant-loop-value
invariant-loop-value l = record {
  all : definitions_behind l.known (map view (drop l.value-index l.values)) ≡ definitions_behind l.initial.known (map view l.values);
  count : length l.known ≡ length l.initial.known + l.value-index;
}
