use Rattle.std.proofs.Common.{◌≡◌, ◌∙◌, ◌<◌, ◌+◌, Vec, Global, length, vec_len, vec_capacity, arith, sym, subst}
use Rattle.link_table.specs.OpenLinks.{has_link}
use Rattle.relay_core.specs.Waitings.{WaitsAt}
use Rattle.relay_core.specs.declared.waiting.Waiting.{Waiting}
use Rattle.relay_core.proofs.Passing.{at_more, at_same}
use Rattle.relay_core.proofs.queues.pass_on.Goals.{then-has+in_ok-push_at, else-has}
use Rattle.relay_core.proofs.queues.pass_on.Goals as goal

pub loop-at-preserved : goal.loop-at-preserved
loop-at-preserved c =
    let at = c.loop-at.at in
    let goes = has_link c.args.ways.bits in
    let bytes = c.args.bytes.now in
    let first = c.args.list.now in
    let queues = c.loop-at.list in
    let inv = c.loop-at.invariant in
    let within : at < length queues.items = (let a = c.loop-at-test.true in let b = c.len-at-end.ensures in let e = queues.ok in omega (arith, a, b, e, inv.1)) in
    elim c.if-has.branch [
      | then-has+in_ok-push_at w ↦
          let e = w.in_ok-push_at.ensures in
          subst (λ (q : Vec Waiting Global). WaitsAt (at + 1) goes bytes first.items q.items × (vec_len q ≡ vec_len first) × (vec_capacity q ≡ vec_capacity first)) (sym w.list-is)
          (at_more at goes bytes first.items queues.items w.push_at.new.list.items within (sym c.has.ensures ∙ w.if-has.true) e.queues inv.0, e.count ∙ inv.1, e.room ∙ inv.2)
      | else-has w ↦
          subst (λ (q : Vec Waiting Global). WaitsAt (at + 1) goes bytes first.items q.items × (vec_len q ≡ vec_len first) × (vec_capacity q ≡ vec_capacity first)) (sym w.list-is)
          (at_same at goes bytes first.items queues.items (sym c.has.ensures ∙ w.if-has.false) inv.0, inv.1, inv.2)
    ]
