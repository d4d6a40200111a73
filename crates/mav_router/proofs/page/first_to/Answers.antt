use Rattle.std.proofs.Common.{◌≡◌, ◌∙◌, Option, Some, None, true, sym, subst, arith}
use Rattle.std.proofs.lemmas.Option.{slice_get_past}
use Rattle.link_table.specs.Routing.{has_port}
use Rattle.mav_router.specs.declared.page.Head.{Head}
use Rattle.mav_router.proofs.Outgoing.{stays_here}
use Rattle.mav_router.proofs.page.first_to.Goals as goal

pub loop-index-preserved : goal.loop-index-preserved
loop-index-preserved c =
    let l = c.loop-index in
    record {
      from = omega (arith, l.invariant.from);
      within = omega (arith, c.loop-index-test.true);
      none = λ bytes. stays_here c.args.port bytes c.args.heads.now l.index c.head_at-head.result c.head_at-head.ensures (sym c.has.ensures ∙ c.if-has.false) ∙ l.invariant.none bytes;
    }

pub returns-then-has-clause-goes : goal.returns-then-has-clause-goes
returns-then-has-clause-goes c = λ head there.
    let same : c.head_at-head.result ≡ head = let e = sym c.head_at-head.ensures ∙ there in cc in
    subst (λ (h : Head). has_port h.outcome.ways c.args.port ≡ true) same (sym c.has.ensures ∙ c.if-has.true)

pub returns-clause-goes : goal.returns-clause-goes
returns-clause-goes c = λ head is.
    let wrong : ◌≡◌ {A = Option Head} (Some head) None = sym is ∙ slice_get_past c.args.heads.now c.loop-index.index (omega (arith, c.loop-index-test.false)) in
    absurd cc
