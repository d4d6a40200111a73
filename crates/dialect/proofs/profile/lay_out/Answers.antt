-- One more row is laid out after the others.
use Rattle.dialect.specs.ProfileTable.{definition_of_row}
use Rattle.dialect.specs.Grammar.{has_id}
use Rattle.dialect.specs.declared.profile.MessageRow.{MessageRow}
use Rattle.field_layout.specs.Definition.{Definition}
use Rattle.std.proofs.lemmas.List.{take_all}
use Rattle.std.proofs.Common.{List, ◌++◌, map, sym, ap, ◌∙◌, append-nil}
use Rattle.std.proofs.lemmas.Result.{err_from_is_err_and}
use Rattle.dialect.proofs.Rows.{definitions-more, laid_out-more, row_laid_out}
use Rattle.dialect.proofs.profile.lay_out.Goals as goal

pub loop-row-preserved : goal.loop-row-preserved
loop-row-preserved c = record {
  done =
      definitions-more c.loop-row.layouts c.args.rows.now c.loop-row.row-index _ c.loop-row-test.true c.loop-row.invariant.rest
      c.args.layouts.now c.add.new.self c.in_ok-layout_of_row.field-0 c.in_ok-layout_of_row.ensures c.in_ok-add.ensures.added
      c.loop-row.invariant.done;
  rest =
      laid_out-more c.loop-row.layouts c.args.rows.now c.loop-row.row-index _ c.loop-row-test.true c.loop-row.invariant.rest
      c.in_ok-layout_of_row.field-0 c.add.new.self c.in_ok-layout_of_row.ensures c.in_ok-add.ensures.added;
}

pub loop-row-init : goal.loop-row-init
loop-row-init c = record { done = sym (append-nil c.args.layouts.now); rest = c.requires }

pub layout_of_row-requires : goal.layout_of_row-requires
layout_of_row-requires c = (row_laid_out c.loop-row.layouts c.args.rows.now c.loop-row.row-index _ c.loop-row-test.true c.loop-row.invariant.rest).0

pub add-requires : goal.add-requires
add-requires c = ap (λ (def : Definition). has_id c.loop-row.layouts def.id) c.in_ok-layout_of_row.ensures ∙ (row_laid_out c.loop-row.layouts c.args.rows.now c.loop-row.row-index _ c.loop-row-test.true c.loop-row.invariant.rest).1

pub returns-in_err-layout_of_row : goal.returns-in_err-layout_of_row
returns-in_err-layout_of_row c = rw (err_from_is_err_and c.from_residual.result c.from_residual.ensures.1).1 tt

pub returns-in_err-add : goal.returns-in_err-add
returns-in_err-add c = rw (err_from_is_err_and c.from_residual-in_err-add.result c.from_residual-in_err-add.ensures.1).1 tt

pub returns : goal.returns
returns c = c.loop-row.invariant.done ∙ ap (λ (rows : List MessageRow). c.args.layouts.now ++ map definition_of_row rows) (take_all c.loop-row.row-index c.args.rows.now c.loop-row-test.false)
