use Rattle.std.proofs.Common.{ℕ, Option, subst, sym}
use Rattle.mav_stream.specs.Held.{Held}
use Rattle.mav_stream.specs.Progress.{Feeds}
use Rattle.relay_core.specs.Calls.{RunIs}
use Rattle.relay_core.specs.RelayRuns.{RelayKept}
use Rattle.relay_core.specs.Strangers.{HasJudged, JudgesInPart, kept_with}
use Rattle.relay_core.proofs.Judging.{all_held, has_judged, judged_all, judged_first}
use Rattle.relay_core.proofs.Results.{on_err}
use Rattle.relay_core.proofs.relay.Relay.judge_stranger.Goals as goal

pub returns-in_err-scanner-clause-stops : goal.returns-in_err-scanner-clause-stops
returns-in_err-scanner-clause-stops g c =
    let rules = c.args.rules.now in
    let port = c.args.port in
    let bytes = c.args.bytes.now in
    let view = c.args.self.now in
    let told = g.W.Watcher.told in
    let watcher = c.args.watcher.now in
    on_err c.from_residual.result (JudgesInPart rules port bytes view view told watcher watcher)
    (λ start run is. record { held = all_held rules port bytes; judged = judged_first rules start port bytes run view told watcher is })

pub returns-in_err-judge_all-clause-stops : goal.returns-in_err-judge_all-clause-stops
returns-in_err-judge_all-clause-stops g c =
    let inside = c.self.inside in
    let rules = c.args.rules.now in
    let port = c.args.port in
    let bytes = c.args.bytes.now in
    let fed = c.feed-taken.new.self in
    let told = g.W.Watcher.told in
    let watcher = c.args.watcher.now in
    let telling = c.judge_all.new.watcher in
    let feeds = subst (λ (h : Held). Feeds 65824 h bytes c.feed-taken.result fed) c.in_ok-scanner.ensures c.feed-taken.ensures in
    on_err c.from_residual-in_err-judge_all.result (JudgesInPart rules port bytes c.args.self.now (kept_with c.judge_all.new.links inside.scanners inside.queues) told watcher telling)
    (λ start run is. record {
      held = c.judge_all.new.scanner;
      judged = judged_all rules start port c.feed-taken.result bytes run inside.links c.judge_all.new.links fed c.judge_all.new.scanner inside.scanners inside.queues told watcher telling c.requires.short feeds c.judge_all.ensures.judges (subst (λ (v : RelayKept). RunIs rules start run v) (sym c.self.view_is) is);
    })

pub returns-clause-judges : goal.returns-clause-judges
returns-clause-judges g c = λ start run is.
    let inside = c.self.inside in
    let rules = c.args.rules.now in
    let port = c.args.port in
    let bytes = c.args.bytes.now in
    let fed = c.feed-taken.new.self in
    let later = c.judge_all.new.scanner in
    let new = kept_with c.judge_all.new.links inside.scanners inside.queues in
    let told = g.W.Watcher.told in
    let watcher = c.args.watcher.now in
    let telling = c.judge_all.new.watcher in
    let feeds = subst (λ (h : Held). Feeds 65824 h bytes c.feed-taken.result fed) c.in_ok-scanner.ensures c.feed-taken.ensures in
    let judged = judged_all rules start port c.feed-taken.result bytes run inside.links c.judge_all.new.links fed later inside.scanners inside.queues told watcher telling c.requires.short feeds c.judge_all.ensures.judges (subst (λ (v : RelayKept). RunIs rules start run v) (sym c.self.view_is) is) in
    subst (λ (o : Option ℕ). HasJudged rules start port bytes run new told watcher telling o) (sym c.frame_place.ensures.place)
    (has_judged rules start port bytes run later new told watcher telling judged c.in_ok-judge_all.ensures.ends)
