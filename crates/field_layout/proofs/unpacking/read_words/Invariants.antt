use Rattle.std.proofs.Common.{◌≡◌}
use Rattle.field_layout.specs.Reading.{words_from}
use Rattle.field_layout.proofs.unpacking.read_words.Given as goal

abbrev pub invariant-loop-element : goal.invariant-loop-element
invariant-loop-element l = l.words.items ≡ words_from l.payload l.at l.size l.element
