use Rattle.std.proofs.Common.{rules, sym, ◌∙◌, arith}
use Rattle.live_node.specs.Turns.{calls_of}
use Rattle.live_node.proofs.Resting.{rest_done, rest_of}
use Rattle.live_node.proofs.Watching.{outlast_more, outlast_stopped, outlasted, no_verdict, a_verdict}
use Rattle.live_node.proofs.stations.outlast.Goals as goal

pub returns-then-is_over-clause-did : goal.returns-then-is_over-clause-did
returns-then-is_over-clause-did g c = λ before start opening turns first p awaited.
    let w = c.ticks.invariant.taken before start opening turns first p awaited in
    record { rests = w.rests; ended = w.ended; awaited = w.awaited; over = λ none. a_verdict _ (sym c.is_over.ensures ∙ c.if-is_over.true) none }

pub returns-in-Err-clause-did : goal.returns-in-Err-clause-did
returns-in-Err-clause-did g c = λ before start opening turns first p awaited.
    let w = c.ticks.invariant.taken before start opening turns first p awaited in
    outlast_stopped w (no_verdict _ (sym c.is_over.ensures ∙ c.if-is_over.false)) c.wait.ensures.unread (c.in-Err.ensures.did before start (calls_of opening turns w.rests) first w.ended.between.output)

pub ticks-preserved : goal.ticks-preserved
ticks-preserved g c = record {
  taken = λ before start opening turns first p awaited.
      let w = c.ticks.invariant.taken before start opening turns first p awaited in
      let d = c.in-Ok.ensures.did before start (calls_of opening turns w.rests) first w.ended.between.output in
      outlast_more w (no_verdict _ (sym c.is_over.ensures ∙ c.if-is_over.false)) (rest_of d) (rest_done w.ended c.wait.ensures.unread c.wait.ensures.reader d);
  ends = search rules;
}

pub returns-clause-did : goal.returns-clause-did
returns-clause-did g c = λ before start opening turns first p awaited.
    let w = c.ticks.invariant.taken before start opening turns first p awaited in
    record { rests = w.rests; ended = w.ended; awaited = w.awaited; over = λ none. outlasted c.ranges.most.fits (record { rests = w.rests; number = omega (arith, w.number, c.ticks-test.false, c.ticks.auto._at-end); ended = w.ended; awaited = w.awaited }) none }
