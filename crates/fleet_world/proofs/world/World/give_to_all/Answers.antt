use Rattle.std.proofs.Common.{length, sym, ap, ◌∙◌, arith}
use Rattle.std.proofs.lemmas.Result.{err_from_is_err_and}
use Rattle.fleet_world.specs.WorldView.{WorldView}
use Rattle.fleet_world.proofs.Leading.{given_start, given_more, given_error, given_end}
use Rattle.fleet_world.proofs.world.World.give_to_all.Goals as goal

pub loop-index-init : goal.loop-index-init
loop-index-init c =
    let size = c.len-index-end.ensures ∙ ap (λ (z : WorldView). length z.fleet.nodes) c.self.view_is in
    record { given = given_start _ _ _ _ _ size; size = size }

pub loop-index-preserved : goal.loop-index-preserved
loop-index-preserved c = record {
  given = given_more _ _ _ _ _ _ _ _ _ _ c.loop-index-test.true c.loop-index.invariant.given c.in_ok-give.ensures.done;
  size = c.loop-index.invariant.size ∙ sym c.give.ensures.count;
}

pub give-requires : goal.give-requires
give-requires c = omega (arith, c.loop-index-test.true, c.loop-index.invariant.size)

pub returns-in_err-give-clause-error : goal.returns-in_err-give-clause-error
returns-in_err-give-clause-error c =
    let p = err_from_is_err_and c.from_residual.result c.from_residual.ensures.1 in
    rw (p.1, p.2) (given_error _ _ _ _ _ _ _ _ _ c.loop-index-test.true c.loop-index.invariant.given c.in_err-give.ensures.error)

pub returns-clause-done : goal.returns-clause-done
returns-clause-done c = λ state packet is found. given_end _ _ _ _ _ _ _ _ c.loop-index-test.false c.loop-index.invariant.given state packet is found
