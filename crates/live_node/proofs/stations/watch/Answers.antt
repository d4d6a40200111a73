use Rattle.std.proofs.Common.{◌≡◌, rules, arith, length, sym, ◌∙◌}
use Rattle.live_node.proofs.Watching.{watch_more, watch_stopped, no_verdict, a_verdict}
use Rattle.live_node.proofs.stations.watch.Goals as goal

pub returns-then-is_over-clause-did : goal.returns-then-is_over-clause-did
returns-then-is_over-clause-did g c = λ before start opening first b.
    let w = c.turns.invariant.taken before start opening first b in
    record { turns = w.turns; between = w.between; awaited = w.awaited; within = omega (arith, w.number, c.turns-test.true); number = λ none. a_verdict _ (sym c.is_over.ensures ∙ c.if-is_over.true) none }

pub returns-in-Ok-false-clause-did : goal.returns-in-Ok-false-clause-did
returns-in-Ok-false-clause-did g c = λ before start opening first b.
    let w = c.turns.invariant.taken before start opening first b in
    record { turns = w.turns; within = omega (arith, w.number, c.turns-test.true); ended = (rw c.in-Ok-false.field-0-test at c.in-Ok-false.ensures.did) before start opening w.turns first w.between; awaited = w.awaited }

pub returns-in-Err-clause-did : goal.returns-in-Err-clause-did
returns-in-Err-clause-did g c = λ before start opening first b.
    let w = c.turns.invariant.taken before start opening first b in
    watch_stopped w (omega (arith, c.turns-test.true)) (no_verdict _ (sym c.is_over.ensures ∙ c.if-is_over.false)) (c.in-Err.ensures.did before start opening w.turns first w.between)

pub turns-preserved : goal.turns-preserved
turns-preserved g c = record {
  taken = λ before start opening first b.
      let w = c.turns.invariant.taken before start opening first b in
      watch_more w (no_verdict _ (sym c.is_over.ensures ∙ c.if-is_over.false)) ((rw c.in-Ok-true.field-0-test at c.in-Ok-true.ensures.did) before start opening w.turns first w.between);
  ends = search rules;
}

pub returns-clause-did : goal.returns-clause-did
returns-clause-did g c = λ before start opening first b.
    let w = c.turns.invariant.taken before start opening first b in
    let all : length w.turns ≡ c.args.plan.turns = omega (arith, w.number, c.turns-test.false, c.turns.auto._at-end) in
    record { turns = w.turns; between = w.between; awaited = w.awaited; within = omega (arith, all); number = λ none. all }
