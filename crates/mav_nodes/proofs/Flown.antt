-- A tick of a drone's simulator, part by part.
use Rattle.std.proofs.Common.{◌≡◌, ℕ, List, ◌∷◌, ◌++◌, Result, Ok, Err, ap, ◌∙◌}
use Rattle.std.specs.Prelude.{map, IfOk}
use Rattle.plan_items.specs.declared.items.Item.{Item}
use Rattle.plan_upload.specs.Drone.{DroneState}
use Rattle.drone_sim.specs.declared.sim.SimNews.{SimNews}
use Rattle.drone_sim.specs.Sim.{SimState, SimTick, news_of, sim_tick}
use Rattle.mav_nodes.specs.declared.services.Served.{Served}
use Rattle.mav_nodes.specs.News.{shown, events_of}
use Rattle.mav_nodes.specs.Services.{DroneServices, sim_step, next_time, position_message, reached_messages, reached_events, captured_events, drone_flies}
use Rattle.mav_nodes.specs.Cores.{IsServed}

module _ {E : Type 0} (drone : DroneState) (v : DroneServices) (mission : List Item) (step time total : ℕ) (sim : SimState) (news : SimNews) where
  -- what was said of a tick that was done
  pub flown : (r : Result Served E) → mission ≡ drone.plans.mission → step ≡ sim_step v.server → sim ≡ (sim_tick v.sim mission step).sim → news ≡ news_of (sim_tick v.sim mission step) → time ≡ next_time v.time → total ≡ sim.captures
      → IfOk r (λ served. (tick : SimTick) → news ≡ news_of tick → served.answers.items ≡ position_message time tick.sim.position ∷ reached_messages tick.reached)
      → IfOk r (λ served. (tick : SimTick) → news ≡ news_of tick → events_of served.last.items ≡ map shown (reached_events tick.reached ++ captured_events tick.captured total))
      → IfOk r (IsServed (drone_flies drone v) (record v { sim = sim; time = time }))
  flown (Err e) plan by moved said later counted answers last = tt
  flown (Ok served) plan by moved said later counted answers last =
      let here : sim_tick v.sim mission step ≡ sim_tick v.sim drone.plans.mission (sim_step v.server) = λ i. sim_tick v.sim (plan i) (by i) in
      let tick = sim_tick v.sim drone.plans.mission (sim_step v.server) in
      let is = said ∙ ap news_of here in
      let now = moved ∙ ap (λ (t : SimTick). t.sim) here in
      record {
        services = λ i. record v { sim = now i; time = later i };
        answers = answers tick is ∙ ap (λ (n : ℕ). position_message n tick.sim.position ∷ reached_messages tick.reached) later;
        last = last tick is ∙ ap (λ (n : ℕ). map shown (reached_events tick.reached ++ captured_events tick.captured n)) (counted ∙ ap (λ (s : SimState). s.captures) now);
      }
