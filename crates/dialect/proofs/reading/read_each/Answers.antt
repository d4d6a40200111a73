-- The messages that were read, and those of the values that are left.
use Rattle.std.proofs.Common.{refl, arith}
use Rattle.std.proofs.lemmas.Result.{err_from_is_err_and}
use Rattle.dialect.proofs.Wholes.{one_fails, one_read, one_longer, all_done}
use Rattle.dialect.proofs.reading.read_each.Goals as goal

pub loop-value-init : goal.loop-value-init
loop-value-init c = record { all = refl; count = omega arith }

pub read_message-requires : goal.read_message-requires
read_message-requires c = omega (arith, c.loop-value.invariant.count, c.requires, c.loop-value-test.true)

pub returns-in_err-layout-clause-read : goal.returns-in_err-layout-clause-read
returns-in_err-layout-clause-read c =
    let e = err_from_is_err_and c.from_residual.result c.from_residual.ensures.1 in
    rw e.1 tt

pub returns-in_err-layout-clause-fault : goal.returns-in_err-layout-clause-fault
returns-in_err-layout-clause-fault c =
    let e = err_from_is_err_and c.from_residual.result c.from_residual.ensures.1 in
    rw (e.1, e.2) (λ other. one_fails c.args.values.now c.loop-value.value-index c.value-item.result c.loop-value-test.true c.value-item.is
    c.loop-value.known _ c.loop-value.invariant.all c.in_err-layout.field-0.0 (c.in_err-layout.ensures.fault other))

pub add-requires-clause-id : goal.add-requires-clause-id
add-requires-clause-id c = c.in_ok-layout.ensures.id

pub add-requires-clause-name : goal.add-requires-clause-name
add-requires-clause-name c = c.in_ok-layout.ensures.name

pub returns-in_err-add-clause-read : goal.returns-in_err-add-clause-read
returns-in_err-add-clause-read c =
    let e = err_from_is_err_and c.from_residual-in_err-add.result c.from_residual-in_err-add.ensures.1 in
    rw e.1 tt

-- want of memory says nothing of the messages
pub returns-in_err-add-clause-fault : goal.returns-in_err-add-clause-fault
returns-in_err-add-clause-fault c =
    let e = err_from_is_err_and c.from_residual-in_err-add.result c.from_residual-in_err-add.ensures.1 in
    rw (e.1, e.2) (λ other. absurd (other refl))

pub loop-value-preserved : goal.loop-value-preserved
loop-value-preserved c =
    record {
      all = one_read c.args.values.now c.loop-value.value-index c.value-item.result c.loop-value-test.true c.value-item.is
          c.loop-value.known _ c.loop-value.invariant.all c.in_ok-layout.layout c.add.new.self c.in_ok-layout.ensures.read c.in_ok-add.ensures;
      count = one_longer c.loop-value.known c.add.new.self c.in_ok-layout.layout _ c.loop-value.value-index c.in_ok-add.ensures c.loop-value.invariant.count;
    }

pub returns-clause-read : goal.returns-clause-read
returns-clause-read c =
    all_done c.args.values.now c.loop-value.value-index c.loop-value.known _ c.loop-value-test.false c.loop-value.invariant.all

pub returns-clause-fault : goal.returns-clause-fault
returns-clause-fault c = tt
