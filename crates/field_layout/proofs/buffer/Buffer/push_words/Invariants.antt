use Rattle.std.proofs.Common.{◌≡◌, ◌++◌, take}
use Rattle.std.specs.List.{flat_map}
use Rattle.field_layout.specs.Payload.{le_bytes}
use Rattle.field_layout.proofs.buffer.Buffer.push_words.Given as goal

abbrev pub invariant-loop-word : goal.invariant-loop-word
invariant-loop-word l = l.self ≡ l.initial.self ++ flat_map (le_bytes l.size) (take l.word-index l.words)
