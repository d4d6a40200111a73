use Rattle.std.proofs.lemmas.Result.{err_from_is_err_and}
use Rattle.mav_text.proofs.line_templates.line_templates_of.Goals as goal

pub returns-in_err-low-clause-len : goal.returns-in_err-low-clause-len
returns-in_err-low-clause-len c = rw (err_from_is_err_and c.from_residual.result c.from_residual.ensures.1).1 tt

pub returns-in_err-low-clause-indices : goal.returns-in_err-low-clause-indices
returns-in_err-low-clause-indices c = rw (err_from_is_err_and c.from_residual.result c.from_residual.ensures.1).1 tt

pub returns-in_err-add_templates-clause-len : goal.returns-in_err-add_templates-clause-len
returns-in_err-add_templates-clause-len c = rw (err_from_is_err_and c.from_residual-in_err-add_templates.result c.from_residual-in_err-add_templates.ensures.1).1 tt

pub returns-in_err-add_templates-clause-indices : goal.returns-in_err-add_templates-clause-indices
returns-in_err-add_templates-clause-indices c = rw (err_from_is_err_and c.from_residual-in_err-add_templates.result c.from_residual-in_err-add_templates.ensures.1).1 tt
