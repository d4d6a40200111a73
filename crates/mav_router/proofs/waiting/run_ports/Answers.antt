use Rattle.std.proofs.Common.{◌≡◌, ◌∙◌, ◌<◌, ◌+◌, ℕ, inl, inr, arith, sym, subst}
use Rattle.mav_router.specs.Runs.{DidBetween}
use Rattle.mav_router.proofs.RunSteps.{same_or}
use Rattle.mav_router.proofs.TurnSteps.{all_starts, turns_at_start, turns_at_end}
use Rattle.mav_router.proofs.waiting.run_ports.Goals as goal

pub loop-awaited-preserved : goal.loop-awaited-preserved
loop-awaited-preserved g c =
    let l = c.loop-awaited in
    let i = l.invariant in
    let r = c.in_default.ensures in
    record {
      rules = c.run_port.ensures.rules ∙ i.rules;
      so_far = λ rules first run. r.so_far rules first (i.so_far rules first run);
      turns = λ least k within had. r.turns least k within (i.turns least k within had);
      done = λ k before.
          elim (same_or k l.awaited) [
            | inl e ↦
                subst (λ (j : ℕ). DidBetween c.args.most c.args.most c.run_port.new.lanes j) (sym e)
                (r.done (all_starts c.args.most c.args.lanes.now l.lanes i.turns (turns_at_start c.args.most c.args.lanes.now c.requires.turned) l.awaited))
            | inr apart ↦ r.turns c.args.most k (omega arith) (i.done k (below k l.awaited before apart))
          ];
    }
  where
    below : (k at : ℕ) → k < at + 1 → (k ≡ at → ⊥) → k < at
    below k at past apart = grind (arith)

pub returns-in-Err-clause-rules : goal.returns-in-Err-clause-rules
returns-in-Err-clause-rules g c = c.run_port.ensures.rules ∙ c.loop-awaited.invariant.rules

pub returns-in-Err-clause-stopped : goal.returns-in-Err-clause-stopped
returns-in-Err-clause-stopped g c = λ rules first run.
    let l = c.loop-awaited in
    let i = l.invariant in
    c.in-Err.ensures.stopped (omega (arith, c.requires.most)) (all_starts c.args.most c.args.lanes.now l.lanes i.turns (turns_at_start c.args.most c.args.lanes.now c.requires.turned)) rules first (i.so_far rules first run)

pub returns-clause-turned : goal.returns-clause-turned
returns-clause-turned g c =
    let l = c.loop-awaited in
    turns_at_end c.args.most l.lanes (λ k within. l.invariant.done k (omega (arith, within, c.loop-awaited-test.false, l.auto.lanes, l.auto.links, c.requires.lanes)))
