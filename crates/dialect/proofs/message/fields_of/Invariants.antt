use Rattle.std.proofs.Common.{◌≡◌, take}
use Rattle.std.specs.List.{filter_map}
use Rattle.dialect.specs.Grammar.{field_of}
use Rattle.dialect.proofs.message.fields_of.Given as goal

abbrev pub invariant-loop-field : goal.invariant-loop-field
invariant-loop-field l = l.defined.items ≡ filter_map field_of (take l.field-index l.fields)
