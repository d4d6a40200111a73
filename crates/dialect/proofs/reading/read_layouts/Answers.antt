-- A text that is no JSON, a top level without messages, too many messages, or what the messages are.
use Rattle.std.proofs.Common.{sym}
use Rattle.std.proofs.lemmas.Result.{err_from_is_err_and}
use Rattle.serde_json.specs.View.{view}
use Rattle.dialect.proofs.Wholes.{no_json, no_messages, too_many, all_read, none_read}
use Rattle.dialect.proofs.reading.read_layouts.Goals as goal

pub returns-in_err-top-clause-read : goal.returns-in_err-top-clause-read
returns-in_err-top-clause-read c =
    let e = err_from_is_err_and c.from_residual.result c.from_residual.ensures.1 in
    rw e.1 tt

pub returns-in_err-top-clause-fault : goal.returns-in_err-top-clause-fault
returns-in_err-top-clause-fault c =
    let e = err_from_is_err_and c.from_residual.result c.from_residual.ensures.1 in
    rw (e.1, e.2) (no_json c.args.bytes.now c.in_err-top.field-0.0 c.in_err-top.ensures.fault c.in_err-top.ensures.refused)

pub returns-in_default-clause-fault : goal.returns-in_default-clause-fault
returns-in_default-clause-fault c =
    λ _. no_messages c.args.bytes.now (view c.in_ok-top.top) c.in_ok-top.ensures.read
    (sym c.in_default.ensures)

pub returns-then-messages-gt-MAX_MESSAGES-clause-fault :
    goal.returns-then-messages-gt-MAX_MESSAGES-clause-fault
returns-then-messages-gt-MAX_MESSAGES-clause-fault c =
    λ _. too_many c.args.bytes.now (view c.in_ok-top.top) c.in_ok-top.ensures.read c.in-Some.messages.now (sym c.in-Some.ensures) c.if-messages-gt-MAX_MESSAGES.true

pub read_messages-requires : goal.read_messages-requires
read_messages-requires c = c.if-messages-gt-MAX_MESSAGES.false

pub returns-clause-read : goal.returns-clause-read
returns-clause-read c =
    all_read c.args.bytes.now (view c.in_ok-top.top) c.in_ok-top.ensures.read c.in-Some.messages.now (sym c.in-Some.ensures) c.if-messages-gt-MAX_MESSAGES.false
    c.read_messages.result c.read_messages.ensures.read

pub returns-clause-fault : goal.returns-clause-fault
returns-clause-fault c =
    none_read c.args.bytes.now (view c.in_ok-top.top) c.in_ok-top.ensures.read c.in-Some.messages.now (sym c.in-Some.ensures) c.if-messages-gt-MAX_MESSAGES.false
    c.read_messages.result c.read_messages.ensures.fault
