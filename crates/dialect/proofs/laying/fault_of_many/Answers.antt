use Rattle.std.proofs.lemmas.Result.{err_from_is_err_and}
use Rattle.std.proofs.Common.{sym, ◌∙◌}
use Rattle.dialect.proofs.ManyFields.{first_fault-too_long}
use Rattle.dialect.proofs.laying.fault_of_many.Goals as goal

pub returns : goal.returns
returns c =
    first_fault-too_long c.args.def.now c.payload_len-len.result (λ none. c.if-base_count-eq0.false (c.base_count.ensures ∙ none))
    (sym c.in_ok-index.ensures.first ∙ c.in_default.is) c.payload_len-len.ensures c.requires

pub returns-in_err-index : goal.returns-in_err-index
returns-in_err-index c = rw (err_from_is_err_and c.from_residual.result c.from_residual.ensures.1).1 tt

pub returns-in_err-name : goal.returns-in_err-name
returns-in_err-name c = rw (err_from_is_err_and c.from_residual-in_err-name.result c.from_residual-in_err-name.ensures.1).1 tt
