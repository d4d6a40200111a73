use Rattle.std.proofs.Common.{◌≡◌, map}
use Rattle.std.specs.List.{range_with_len}
use Rattle.field_layout.specs.Words.{items_of}
use Rattle.field_layout.proofs.Decoding.{decoded}
use Rattle.field_layout.proofs.unpacking.unpack.Given as goal

abbrev pub invariant-loop-place : goal.invariant-loop-place
invariant-loop-place l = map items_of l.words.items ≡ map (decoded l.layout l.payload) (range_with_len 0 l.place)
