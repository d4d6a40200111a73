use Rattle.std.proofs.Common.{◌≡◌, map, take}
use Rattle.dialect.specs.ProfileTable.{field_of_row}
use Rattle.dialect.proofs.profile.fields_of.Given as goal

abbrev pub invariant-loop-row : goal.invariant-loop-row
invariant-loop-row l = l.fields.items ≡ map field_of_row (take l.row-index l.rows)
