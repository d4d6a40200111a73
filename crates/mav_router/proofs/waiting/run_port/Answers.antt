use Rattle.std.proofs.Common.{◌∙◌, ◌<◌, length, arith, get_or}
use Rattle.std.proofs.lemmas.Option.{slice_get-get_or}
use Rattle.mav_router.proofs.TurnSteps.{all_starts, over_at}
use Rattle.mav_router.proofs.waiting.run_port.Goals as goal

pub loop-turn-preserved : goal.loop-turn-preserved
loop-turn-preserved g c =
    let i = c.loop-turn.invariant in
    let a = c.in_default.ensures in
    let p = c.in_default-pass.ensures in
    record {
      rules = c.pass.ensures.rules ∙ (c.await_port.ensures.rules ∙ i.rules);
      so_far = λ rules first run. p.so_far rules first (a.so_far rules first (i.so_far rules first run));
      turns = λ least k within had. p.turns least k within (a.turns least k within (i.turns least k within had));
      done = λ start. p.turned c.loop-turn.turn c.loop-turn-test.true (a.turns c.loop-turn.turn c.args.awaited (omega (arith, c.loop-turn-test.true)) (i.done start));
    }

pub returns-then-not-has_turns-clause-done : goal.returns-then-not-has_turns-clause-done
returns-then-not-has_turns-clause-done g c =
    let l = c.loop-turn in
    let in_lanes : c.args.awaited < length l.lanes = omega (arith, l.auto.lanes, c.requires.lanes, c.requires.within) in
    λ start.
    over_at c.loop-turn.turn c.args.most c.args.awaited l.lanes _ (slice_get-get_or l.lanes c.args.awaited c.index-lanes-awaited.result in_lanes)
    (c.has_turns.ensures.over c.if-not-has_turns.true) (l.invariant.done start)

pub returns-in-Err-clause-rules : goal.returns-in-Err-clause-rules
returns-in-Err-clause-rules g c = c.await_port.ensures.rules ∙ c.loop-turn.invariant.rules

pub returns-in-Err-clause-stopped : goal.returns-in-Err-clause-stopped
returns-in-Err-clause-stopped g c = λ small start rules first run.
    let i = c.loop-turn.invariant in
    c.in-Err.ensures.stopped small (all_starts c.args.most c.args.lanes.now c.loop-turn.lanes i.turns start) rules first (i.so_far rules first run)

pub returns-in-Err-pass-clause-rules : goal.returns-in-Err-pass-clause-rules
returns-in-Err-pass-clause-rules g c = c.pass.ensures.rules ∙ (c.await_port.ensures.rules ∙ c.loop-turn.invariant.rules)

pub returns-in-Err-pass-clause-stopped : goal.returns-in-Err-pass-clause-stopped
returns-in-Err-pass-clause-stopped g c = λ small start rules first run.
    let i = c.loop-turn.invariant in
    let a = c.in_default.ensures in
    c.in-Err-pass.ensures.stopped small (all_starts c.args.most c.loop-turn.lanes c.await_port.new.lanes a.turns (all_starts c.args.most c.args.lanes.now c.loop-turn.lanes i.turns start)) rules first
    (a.so_far rules first (i.so_far rules first run))
