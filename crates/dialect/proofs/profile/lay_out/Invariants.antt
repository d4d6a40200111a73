use Rattle.std.proofs.Common.{◌≡◌, ◌++◌, true, map, take, drop}
use Rattle.dialect.specs.ProfileTable.{definition_of_row, are_laid_out_behind}
use Rattle.dialect.proofs.profile.lay_out.Given as goal

abbrev pub invariant-loop-row : goal.invariant-loop-row
invariant-loop-row l = record {
  done : l.layouts ≡ l.initial.layouts ++ map definition_of_row (take l.row-index l.rows);
  rest : are_laid_out_behind l.layouts (map definition_of_row (drop l.row-index l.rows)) ≡ true;
}
