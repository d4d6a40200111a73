-- Want of memory says nothing of the message; each other result is what the message is after the earlier ones.
use Rattle.std.proofs.Common.{refl, sym, ◌∙◌}
use Rattle.std.proofs.lemmas.Result.{err_from_is_err_and}
use Rattle.serde_json.specs.View.{view}
use Rattle.dialect.specs.Shape.{message_in}
use Rattle.dialect.proofs.OneMessage.{behind-shape, behind-text_fault, laid_out-id, laid_out-name, laid_out-read, laid_out-fault}
use Rattle.dialect.proofs.reading.read_message.Goals as goal

pub returns-in_err-message-clause-fault : goal.returns-in_err-message-clause-fault
returns-in_err-message-clause-fault c =
    let e = err_from_is_err_and c.from_residual.result c.from_residual.ensures.1 in
    rw (e.1, e.2) (λ other. absurd (other refl))

pub returns-in_err-message-clause-read : goal.returns-in_err-message-clause-read
returns-in_err-message-clause-read c =
    let e = err_from_is_err_and c.from_residual.result c.from_residual.ensures.1 in
    rw e.1 tt

pub returns-in_err-def-clause-fault : goal.returns-in_err-def-clause-fault
returns-in_err-def-clause-fault c =
    let e = err_from_is_err_and c.from_residual-in_err-def.result c.from_residual-in_err-def.ensures.1 in
    rw (e.1, e.2) (λ other. absurd (other refl))

pub returns-in_err-def-clause-read : goal.returns-in_err-def-clause-read
returns-in_err-def-clause-read c =
    let e = err_from_is_err_and c.from_residual-in_err-def.result c.from_residual-in_err-def.ensures.1 in
    rw e.1 tt

pub returns-in_err-message-clause-id : goal.returns-in_err-message-clause-id
returns-in_err-message-clause-id c =
    let e = err_from_is_err_and c.from_residual.result c.from_residual.ensures.1 in
    rw e.1 tt

pub returns-in_err-message-clause-name : goal.returns-in_err-message-clause-name
returns-in_err-message-clause-name c =
    let e = err_from_is_err_and c.from_residual.result c.from_residual.ensures.1 in
    rw e.1 tt

pub returns-in_err-def-clause-id : goal.returns-in_err-def-clause-id
returns-in_err-def-clause-id c =
    let e = err_from_is_err_and c.from_residual-in_err-def.result c.from_residual-in_err-def.ensures.1 in
    rw e.1 tt

pub returns-in_err-def-clause-name : goal.returns-in_err-def-clause-name
returns-in_err-def-clause-name c =
    let e = err_from_is_err_and c.from_residual-in_err-def.result c.from_residual-in_err-def.ensures.1 in
    rw e.1 tt

pub returns-in_default-clause-id : goal.returns-in_default-clause-id
returns-in_default-clause-id c = tt

pub returns-in_default-clause-name : goal.returns-in_default-clause-name
returns-in_default-clause-name c = tt

pub returns-in_default-clause-read : goal.returns-in_default-clause-read
returns-in_default-clause-read c = tt

pub returns-in_default-clause-fault : goal.returns-in_default-clause-fault
returns-in_default-clause-fault c =
    λ _. behind-shape c.args.known.now (message_in (view c.args.value.now)) c.len-at.result c.len-at.ensures (sym c.in_ok-message.ensures ∙ c.in_default.is)

pub returns-in-Some-text_fault-clause-id : goal.returns-in-Some-text_fault-clause-id
returns-in-Some-text_fault-clause-id c = tt

pub returns-in-Some-text_fault-clause-name : goal.returns-in-Some-text_fault-clause-name
returns-in-Some-text_fault-clause-name c = tt

pub returns-in-Some-text_fault-clause-read : goal.returns-in-Some-text_fault-clause-read
returns-in-Some-text_fault-clause-read c = tt

pub returns-in-Some-text_fault-clause-fault : goal.returns-in-Some-text_fault-clause-fault
returns-in-Some-text_fault-clause-fault c =
    λ _. behind-text_fault c.args.known.now (message_in (view c.args.value.now)) c.in-Some.message (sym c.in_ok-message.ensures ∙ c.in-Some.is)
    c.in-Some-text_fault.fault (sym c.text_fault.ensures ∙ c.in-Some-text_fault.is)

pub returns-clause-id : goal.returns-clause-id
returns-clause-id c =
    laid_out-id c.args.known.now (message_in (view c.args.value.now)) c.in-Some.message (sym c.in_ok-message.ensures ∙ c.in-Some.is)
    (sym c.text_fault.ensures ∙ c.in_default-text_fault.is) c.in_ok-def.def c.in_ok-def.ensures c.laid_out.result c.laid_out.ensures.same

pub returns-clause-name : goal.returns-clause-name
returns-clause-name c =
    laid_out-name c.args.known.now (message_in (view c.args.value.now)) c.in-Some.message (sym c.in_ok-message.ensures ∙ c.in-Some.is)
    (sym c.text_fault.ensures ∙ c.in_default-text_fault.is) c.in_ok-def.def c.in_ok-def.ensures c.laid_out.result c.laid_out.ensures.same

pub returns-clause-read : goal.returns-clause-read
returns-clause-read c =
    laid_out-read c.args.known.now (message_in (view c.args.value.now)) c.in-Some.message (sym c.in_ok-message.ensures ∙ c.in-Some.is)
    (sym c.text_fault.ensures ∙ c.in_default-text_fault.is) c.in_ok-def.def c.in_ok-def.ensures c.laid_out.result c.laid_out.ensures.faultless c.laid_out.ensures.same

pub returns-clause-fault : goal.returns-clause-fault
returns-clause-fault c =
    laid_out-fault c.args.known.now (message_in (view c.args.value.now)) c.in-Some.message (sym c.in_ok-message.ensures ∙ c.in-Some.is)
    (sym c.text_fault.ensures ∙ c.in_default-text_fault.is) c.in_ok-def.def c.in_ok-def.ensures c.laid_out.result c.len-at.result c.len-at.ensures c.laid_out.ensures.fault
