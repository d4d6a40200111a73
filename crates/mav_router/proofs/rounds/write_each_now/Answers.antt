use Rattle.std.proofs.Common.{◌∙◌, ◌<◌, ◌+◌, ap, length, arith, get_or}
use Rattle.std.proofs.lemmas.Option.{slice_get-get_or}
use Rattle.mav_router.specs.Journal.{frames_from}
use Rattle.mav_router.proofs.RunSteps.{run_step, input_kept, output_kept}
use Rattle.mav_router.proofs.TurnSteps.{turns_step, kept_between}
use Rattle.mav_router.proofs.rounds.write_each_now.Goals as goal

pub loop-at-preserved : goal.loop-at-preserved
loop-at-preserved g c =
    let l = c.loop-at in
    let at = l.at in
    let old = l.switch in
    let new = c.write_port_now.new.switch in
    let w = c.write_port_now.ensures in
    let in_links : at < length l.links = omega (arith, l.auto.links, c.loop-at-test.true) in
    let in_lanes : at < length l.lanes = omega (arith, l.auto.lanes, l.auto.links, c.loop-at-test.true, c.requires.lanes) in
    let was = get_or l.lanes at c.index-lanes-at.result in
    let is_link = slice_get-get_or l.links at c.index-links-at.result in_links in
    let is_lane = slice_get-get_or l.lanes at c.index-lanes-at.result in_lanes in
    record {
      turns = λ most.
          turns_step most at c.args.lanes.now l.lanes c.write_port_now.new.lane was is_lane (λ least within had. kept_between least most was c.write_port_now.new.lane within w.keeps.turned had) (l.invariant.turns most);
      rules = w.same.0 ∙ l.invariant.rules;
      so_far = λ rules first run.
          let now = l.invariant.so_far rules first run in
          let before = now at (get_or l.links at c.index-links-at.result) was is_link is_lane in
          run_step g.L.Link.state rules old new first l.links l.lanes at c.write_port_now.new.link c.write_port_now.new.lane now
          (λ k link lane apart p. record {
            input = input_kept rules old.journal new.journal (k + 1) (first k) (g.L.Link.state link) lane (ap (frames_from (k + 1)) w.same.1) p.input;
            output = output_kept old new (k + 1) (first k) (g.L.Link.state link) lane (w.others (k + 1) (omega arith) (λ e. apart (omega (arith, e)))) p.output;
          })
          (record {
            input = input_kept rules old.journal new.journal (at + 1) (first at) (g.L.Link.state c.write_port_now.new.link) c.write_port_now.new.lane (ap (frames_from (at + 1)) w.same.1) (w.keeps.input rules old.journal (at + 1) (first at) before.input);
            output = w.output (first at) before.output;
          });
    }
