use Rattle.std.proofs.Common.{refl, subst}
use Rattle.mav_nodes.specs.Services.{DroneServices, next_time, drone_flies}
use Rattle.mav_nodes.specs.Cores.{IsServed}
use Rattle.mav_nodes.proofs.Cores.{if_ok}
use Rattle.mav_nodes.proofs.Flown.{flown}
use Rattle.mav_nodes.proofs.drone_services.DroneServices.fly.Goals as goal

pub returns : goal.returns
returns c =
    let inside : DroneServices = record { sim = c.self.inside.sim; time = c.self.inside.time; executor = c.self.inside.executor; server = c.self.inside.server; files = c.self.inside.files } in
    let after : DroneServices = record inside { sim = c.tick-news.new.self; time = next_time inside.time } in
    if_ok c.say_flight.result (λ served. subst (λ (v : DroneServices). IsServed (drone_flies c.args.core.now v) after served) c.self.view_is)
    (flown c.args.core.now inside _ c.sim_step-step.result (next_time inside.time) c.captures-2.result c.tick-news.new.self c.tick-news.result c.say_flight.result c.plan.ensures.items c.sim_step-step.ensures c.tick-news.ensures.sim c.tick-news.ensures.news refl c.captures-2.ensures c.say_flight.ensures.answers c.say_flight.ensures.last)
