use Rattle.std.proofs.lemmas.Result.{err_from_is_err_and}
use Rattle.mav_nodes.proofs.StoreCalls.{bound_given, exact_given}
use Rattle.mav_nodes.proofs.stores.save_bound.Goals as goal

pub returns-in_err-save_or_load-clause-given : goal.returns-in_err-save_or_load-clause-given
returns-in_err-save_or_load-clause-given g c =
    let p = err_from_is_err_and c.from_residual-in_err-save_or_load.result c.from_residual-in_err-save_or_load.ensures.1 in
    rw p.1 (λ low le held. bound_given (g.K.Keeper.contents c.args.keeper.now) (g.K.Keeper.contents c.save_or_load.new.keeper) (g.C.Core.stored c.args.core.now) c.args.bound c.in-Some.new.items low (rw c.deref.ensures.value at c.save_or_load.ensures.either) (rw c.in-Some.is at c.in_ok-new.ensures.bytes) le held)

pub returns-in_err-save_or_load-clause-exact : goal.returns-in_err-save_or_load-clause-exact
returns-in_err-save_or_load-clause-exact g c =
    let p = err_from_is_err_and c.from_residual-in_err-save_or_load.result c.from_residual-in_err-save_or_load.ensures.1 in
    rw p.1 (exact_given (g.K.Keeper.contents c.args.keeper.now) (g.K.Keeper.contents c.save_or_load.new.keeper) (g.C.Core.stored c.args.core.now c.args.bound) c.in-Some.new.items (rw c.deref.ensures.value at c.save_or_load.ensures.either) (rw c.in-Some.is at c.in_ok-new.ensures.bytes))
