use Rattle.std.proofs.Common.{Bool, true, sym, subst}
use Rattle.mav_frame.specs.Packet.{Packet}
use Rattle.mav_stream.specs.Held.{Held}
use Rattle.relay_core.specs.Strangers.{IsTested, Judged, kept_with}
use Rattle.relay_core.proofs.Judging.{judged_forgets, judged_refuses, judged_skips}
use Rattle.relay_core.proofs.strangers.judge_next.Goals as goal

pub returns-in-Skipped-clause-judges : goal.returns-in-Skipped-clause-judges
returns-in-Skipped-clause-judges g c = λ start bytes run scanners queues first j.
    let rules = c.args.rules.now in
    let held = c.args.scanner.now in
    let new = kept_with c.args.links.now scanners queues in
    let told = g.W.Watcher.told in
    let watcher = c.args.watcher.now in
    subst (λ (h : Held). Judged rules start c.args.port bytes run h new told first watcher) (sym c.consume.ensures)
    (judged_skips rules start c.args.port bytes run held c.in-Skipped.field-0 c.in-Skipped.count new told first watcher c.in-Skipped.ensures j)

pub returns-then-refused-clause-judges : goal.returns-then-refused-clause-judges
returns-then-refused-clause-judges g c = λ start bytes run scanners queues first j.
    let rules = c.args.rules.now in
    let port = c.args.port in
    let held = c.args.scanner.now in
    let links = c.args.links.now in
    let later = c.refuse.new.links in
    let told = g.W.Watcher.told in
    let watcher = c.args.watcher.now in
    let telling = c.refuse.new.watcher in
    let tested = subst (λ (p : Packet). IsTested rules port p true links later told watcher telling) c.raw_frame-frame.ensures
    (subst (λ (b : Bool). IsTested rules port c.raw_frame-frame.result b links later told watcher telling) c.if-refused.true c.in_ok-refused-in-Frame.ensures.tests) in
    subst (λ (h : Held). Judged rules start port bytes run h (kept_with later scanners queues) told first telling) (sym c.consume-then-refused.ensures)
    (judged_refuses rules start port bytes run held c.in-Frame.size links later scanners queues told first watcher telling c.requires.from c.requires.to c.in-Frame.ensures tested j)

pub returns-else-refused-clause-judges : goal.returns-else-refused-clause-judges
returns-else-refused-clause-judges g c = λ start bytes run scanners queues first j.
    let rules = c.args.rules.now in
    let port = c.args.port in
    let links = c.args.links.now in
    let later = c.refuse.new.links in
    let told = g.W.Watcher.told in
    let watcher = c.args.watcher.now in
    let telling = c.refuse.new.watcher in
    judged_forgets rules start port bytes run c.args.scanner.now c.raw_frame-frame.result links later scanners queues told first watcher telling
    (subst (λ (b : Bool). IsTested rules port c.raw_frame-frame.result b links later told watcher telling) c.if-refused.false c.in_ok-refused-in-Frame.ensures.tests) j
