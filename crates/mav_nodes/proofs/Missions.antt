-- What events say of the mission, what is reported of them says too.
use Rattle.std.proofs.Common.{◌≡◌, Bool, true, false, ◌||◌, List, [], ◌∷◌, refl, sym, ap, ◌∙◌}
use Rattle.std.specs.Prelude.{map}
use Rattle.std.specs.List.{list_any}
use Rattle.plan_items.specs.declared.kinds.PlanKind.TheVariants.{Mission, Fence, Rally}
use Rattle.mav_nodes.specs.declared.steps.PlanNews.{PlanNews}
use Rattle.mav_nodes.specs.News.{NodeEvent, Sends, Installs, Empties, Drops, Ends, Ends_command, Gives_param, Ends_params, Reaches, Captures, Ends_file, shown}
use Rattle.drone_sim.specs.Sim.{SimState, changes}
use Rattle.mav_nodes.specs.Services.{DroneServices, changes_mission, drone_notes}
use Rattle.mav_nodes.specs.Cores.{said_of_plans, shows_mission}

one : (event : NodeEvent) → changes_mission event ≡ shows_mission (shown event)
one (Sends packet message) = refl
one (Installs Mission items by) = refl
one (Installs Fence items by) = refl
one (Installs Rally items by) = refl
one (Empties Mission) = refl
one (Empties Fence) = refl
one (Empties Rally) = refl
one (Drops answer) = refl
one (Ends told) = refl
one (Ends_command result) = refl
one (Gives_param param) = refl
one (Ends_params values) = refl
one (Reaches number) = refl
one (Captures total) = refl
one (Ends_file end) = refl

all : (events : List NodeEvent) → list_any changes_mission events ≡ list_any shows_mission (map shown events)
all [] = refl
all (event ∷ events) = λ i. one event i || all events i

module _ (v : DroneServices) (plans : PlanNews) (events : List NodeEvent) (said : said_of_plans plans ≡ map shown events) where
  tested : (b : Bool) → b ≡ list_any shows_mission (said_of_plans plans) → list_any changes_mission events ≡ b
  tested b is = all events ∙ (sym (ap (list_any shows_mission) said) ∙ sym is)

  pub noted : (sim : SimState) → true ≡ list_any shows_mission (said_of_plans plans) → sim ≡ changes v.sim → ◌≡◌ {A = DroneServices} (record v { sim = sim }) (drone_notes v events)
  noted sim is same = let e = tested true is in rw e (ap (λ (s : SimState). record v { sim = s }) same)

  pub not_noted : false ≡ list_any shows_mission (said_of_plans plans) → v ≡ drone_notes v events
  not_noted is = let e = tested false is in rw e refl
