use Rattle.std.proofs.Common.{rules, arith}
use Rattle.live_node.proofs.Taken.{taken_more, stopped_after}
use Rattle.live_node.proofs.drones.run_turns.Goals as goal

pub returns-in-Ok-false-clause-did : goal.returns-in-Ok-false-clause-did
returns-in-Ok-false-clause-did g c =
    λ before start opening first b.
    let t = c.turns.invariant.taken before start opening first b in
    record {
      turns = t.turns;
      number = omega (arith, t.number, c.turns-test.true);
      ended = (rw c.in-Ok-false.field-0-test at c.in-Ok-false.ensures.did) before start opening t.turns first t.between;
    }

pub returns-in-Err-clause-did : goal.returns-in-Err-clause-did
returns-in-Err-clause-did g c =
    λ before start opening first b.
    let t = c.turns.invariant.taken before start opening first b in
    stopped_after t.turns c.turns._at c.args.turns t.number (omega (arith, c.turns-test.true)) (c.in-Err.ensures.did before start opening t.turns first t.between)

pub turns-preserved : goal.turns-preserved
turns-preserved g c = record {
  taken = λ before start opening first b.
      let t = c.turns.invariant.taken before start opening first b in
      taken_more t.turns c.turns._at t.number ((rw c.in-Ok-true.field-0-test at c.in-Ok-true.ensures.did) before start opening t.turns first t.between);
  ends = search rules;
}

pub returns-clause-did : goal.returns-clause-did
returns-clause-did g c = λ before start opening first b.
    let t = c.turns.invariant.taken before start opening first b in
    record { turns = t.turns; number = omega (arith, t.number, c.turns-test.false, c.turns.auto._at-end); between = t.between }
