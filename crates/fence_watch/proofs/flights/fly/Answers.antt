use Rattle.std.proofs.Common.{◌≡◌, ◌+◌, ◌∙◌, sym, ap, Vec, Global}
use Rattle.plan_items.specs.Plans.{items_of}
use Rattle.drone_sim.specs.Sim.{SimState, sim_tick}
use Rattle.drone_sim.specs.Laws.{ticks}
use Rattle.fence_watch.specs.declared.flights.Breach.{Breach}
use Rattle.fence_watch.specs.Judging.{started, place_after}
use Rattle.fence_watch.specs.Fences.{allows}
use Rattle.fence_watch.proofs.Flying.{tick_more, breach_more, none_more}
use Rattle.fence_watch.proofs.flights.fly.Goals as goal
use Rattle.fence_watch.proofs.flights.fly.Goals.{then-not-allowed+in_ok-push, else-not-allowed}

pub loop-tick-preserved : goal.loop-tick-preserved
loop-tick-preserved c =
    let items = items_of c.args.mission.now in
    let n = c.loop-tick.tick in
    let sim : c.tick.new.self ≡ ticks (n + 1) (started c.args.home) items c.args.step =
    c.tick.ensures.sim ∙ (ap (λ (s : SimState). (sim_tick s items c.args.step).sim) c.loop-tick.invariant.sim ∙ sym (tick_more n (started c.args.home) items c.args.step)) in
    let at : c.position-at.result ≡ place_after items c.args.home c.args.step (n + 1) = c.position-at.ensures ∙ ap (λ (s : SimState). s.position) sim in
    let answer : c.allowed.result ≡ allows c.args.watch.now (place_after items c.args.home c.args.step (n + 1)) = c.allowed.ensures.value ∙ ap (allows c.args.watch.now) at in
    record {
      sim = sim;
      breaches = elim c.if-not-allowed.branch [
        | then-not-allowed+in_ok-push w ↦ breach_more c.args.watch.now items c.args.home c.args.step n c.if-not-allowed.breaches.items c.loop-tick.breaches.items c.position-at.result (ap (λ (v : Vec Breach Global). v.items) w.breaches-is ∙ w.in_ok-push.ensures.items) c.loop-tick.invariant.breaches at (sym answer ∙ w.if-not-allowed.true)
        | else-not-allowed w ↦ none_more c.args.watch.now items c.args.home c.args.step n c.if-not-allowed.breaches.items (ap (λ (v : Vec Breach Global). v.items) w.breaches-is ∙ c.loop-tick.invariant.breaches) (sym answer ∙ w.if-not-allowed.false)
      ];
    }
