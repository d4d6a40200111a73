use Rattle.std.proofs.Common.{◌∙◌, ◌++◌, ◌∷◌, [], refl, sym, arith}
use Rattle.std.proofs.lemmas.Option.{slice_get_read}
use Rattle.mav_router.proofs.Pages.{shares_more}
use Rattle.mav_router.proofs.shared.SharedPages.take.Goals as goal

pub loop-number-preserved : goal.loop-number-preserved
loop-number-preserved c =
    let number = c.loop-number.number in
    let page = c.index-sealed-number.result in
    let there = slice_get_read c.args.sealed.now _ number page refl c.loop-number-test.true c.index-sealed-number.is in
    record {
      pages =
          c.put_last.ensures.items
          ∙ ((λ i. c.loop-number.invariant.pages i ++ c.in-Some.ensures i ∷ [])
          ∙ sym (shares_more c.args.sealed.now c.args.from number page c.loop-number.auto.number there));
      room = omega (arith, c.loop-number.invariant.room, c.put_last.ensures.room);
    }
