use Rattle.std.proofs.Common.{◌≡◌, ◌∙◌, ◌<◌, ◌≤◌, ◌+◌, ℕ, inl, inr, length, arith, get_or, refl, subst, sym}
use Rattle.std.proofs.lemmas.Option.{slice_get-get_or}
use Rattle.mav_router.specs.Journal.{given_to}
use Rattle.mav_router.specs.Runs.{TurnsOnce}
use Rattle.mav_router.proofs.RunSteps.{AllWithin, same_or, index_within, stopped_round, run_step, input_kept, output_kept}
use Rattle.mav_router.proofs.TurnSteps.{turns_step, once_at, once_then, all_within, same_number}
use Rattle.mav_router.proofs.rounds.read_each.Goals as goal

pub loop-at-preserved : goal.loop-at-preserved
loop-at-preserved g c =
    let l = c.loop-at in
    let at = l.at in
    let old = l.switch in
    let r = c.read_ready in
    let new = r.new.switch in
    let grows = r.ensures.grows in
    let in_links : at < length l.links = omega (arith, l.auto.links, c.loop-at-test.true) in
    let in_lanes : at < length l.lanes = omega (arith, l.auto.lanes, l.auto.links, c.loop-at-test.true, c.requires.lanes) in
    let was = get_or l.lanes at c.index-lanes-at.result in
    let is_link = slice_get-get_or l.links at c.index-links-at.result in_links in
    let is_lane = slice_get-get_or l.lanes at c.index-lanes-at.result in_lanes in
    record {
      turns = turns_step c.args.most at c.args.lanes.now l.lanes r.new.lane was is_lane r.ensures.turns l.invariant.turns;
      turned = λ past.
          elim (same_or c.args.asked at) [
            | inl e ↦
                let asked = r.ensures.turned (same_number at c.args.asked (sym e)) in
                once_at c.args.most at c.args.asked c.args.lanes.now l.lanes r.new.lane was e is_lane asked l.invariant.turns
            | inr apart ↦ once_then c.args.most at c.args.asked c.args.lanes.now l.lanes r.new.lane was is_lane apart (l.invariant.turned (below c.args.asked at past apart))
          ];
      rules = grows.rules ∙ l.invariant.rules;
      so_far = λ rules first run.
          let now = l.invariant.so_far rules first run in
          let before = now at (get_or l.links at c.index-links-at.result) was is_link is_lane in
          run_step g.L.Link.state rules old new first l.links l.lanes at r.new.link r.new.lane now
          (λ k link lane apart p. record {
            input = input_kept rules old.journal new.journal (k + 1) (first k) (g.L.Link.state link) lane (grows.others (k + 1) (λ e. apart (omega (arith, e)))) p.input;
            output = output_kept old new (k + 1) (first k) (g.L.Link.state link) lane (grows.given (k + 1)) p.output;
          })
          (record {
            input = c.in-Ok.ensures.input rules (first at) before.input;
            output = output_kept old new (at + 1) (first at) (g.L.Link.state r.new.link) r.new.lane (grows.given (at + 1)) (r.ensures.output (given_to old (at + 1)) (first at) before.output);
          });
    }
  where
    below : (k at : ℕ) → k < at + 1 → (k ≡ at → ⊥) → k < at
    below k at past apart = grind (arith)

pub returns-clause-turned : goal.returns-clause-turned
returns-clause-turned g c = at_end (c.loop-at.invariant.turned) (omega (arith, c.loop-at-test.false, c.loop-at.auto.lanes, c.loop-at.auto.links, c.requires.lanes))
  where
    at_end : (c.args.asked < c.loop-at.at → TurnsOnce c.args.most c.args.asked c.args.lanes.now c.loop-at.lanes) → length c.loop-at.lanes ≤ c.loop-at.at → TurnsOnce c.args.most c.args.asked c.args.lanes.now c.loop-at.lanes
    at_end turned past least under had lane is = turned (omega (arith, past, index_within c.loop-at.lanes c.args.asked lane is)) least under had lane is

pub returns-in-Err-clause-stopped : goal.returns-in-Err-clause-stopped
returns-in-Err-clause-stopped g c = λ small start rules first run.
    let l = c.loop-at in
    let at = l.at in
    let old = l.switch in
    let r = c.read_ready in
    let new = r.new.switch in
    let grows = r.ensures.grows in
    let in_links : at < length l.links = omega (arith, l.auto.links, c.loop-at-test.true) in
    let in_lanes : at < length l.lanes = omega (arith, l.auto.lanes, l.auto.links, c.loop-at-test.true, c.requires.lanes) in
    let was = get_or l.lanes at c.index-lanes-at.result in
    let is_link = slice_get-get_or l.links at c.index-links-at.result in_links in
    let is_lane = slice_get-get_or l.lanes at c.index-lanes-at.result in_lanes in
    let now = l.invariant.so_far rules first run in
    let before = now at (get_or l.links at c.index-links-at.result) was is_link is_lane in
    let had = r.ensures.turns 0 (omega arith) (l.invariant.turns 0 at (omega arith) (start at) was is_lane) in
    stopped_round g.L.Link.state rules old new first l.links l.lanes c.args.most at r.new.link r.new.lane (omega (arith, l.auto.lanes, l.auto.links, c.requires.lanes)) in_links small
    (all_within c.args.most c.args.lanes.now l.lanes start l.invariant.turns) had.most now grows
    (output_kept old new (at + 1) (first at) (g.L.Link.state r.new.link) r.new.lane (grows.given (at + 1)) (r.ensures.output (given_to old (at + 1)) (first at) before.output))
    (c.in-Err.ensures.stopped rules (first at) before.input)
