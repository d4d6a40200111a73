-- A node over any core: what the code of a core, and of its services, returns of a step.
use Rattle.std.specs.Prelude.{ℕ, ◌≡◌, ◌++◌, Bool, true, false, List, [], ◌∷◌, map, Option, Some, None}
use Rattle.plan_items.specs.declared.kinds.PlanKind.TheVariants.{Mission, Fence, Rally}
use Rattle.mav_names.specs.declared.names.Stream.{Stream}
use Rattle.plan_items.specs.declared.messages.PlanMsg.{PlanMsg}
use Rattle.mav_messages.specs.declared.messages.Message.{Message}
use Rattle.plan_upload.specs.declared.outcomes.Outcome.{Outcome as Ended}
use Rattle.plan_upload.specs.Outcomes.{told_of}
use Rattle.mav_nodes.specs.declared.steps.PlanNews.{PlanNews}
use Rattle.mav_nodes.specs.declared.steps.PlanNews.TheVariants.{Same, Installed, Emptied}
use Rattle.mav_nodes.specs.declared.steps.Step.{Step}
use Rattle.mav_nodes.specs.declared.services.Served.{Served}
use Rattle.mav_nodes.specs.News.{NodeEvent, Shown, Shows_installed, Shows_emptied, Shows_ended, shown, events_of}
use Rattle.mav_nodes.specs.Services.{ServiceStep}
use Rattle.mav_nodes.specs.Links.{Link, Outcome, done, after_events}
use Rattle.mav_nodes.specs.Steps.{Rules, CoreStep, answers}

-- what is reported of a drone's plans
abbrev pub said_of_plans : PlanNews → List Shown
said_of_plans Same = []
said_of_plans (Installed kind count by) = Shows_installed kind count by ∷ []
said_of_plans (Emptied None) = Shows_emptied Mission ∷ Shows_emptied Fence ∷ Shows_emptied Rally ∷ []
said_of_plans (Emptied (Some kind)) = Shows_emptied kind ∷ []

-- it speaks of the mission
abbrev pub shows_mission : Shown → Bool
shows_mission (Shows_installed Mission count by) = true
shows_mission (Shows_emptied Mission) = true
shows_mission other = false

-- what is reported of an outcome
abbrev pub said_of_outcome : Option Ended → List Shown
said_of_outcome None = []
said_of_outcome (Some outcome) = Shows_ended (told_of outcome) ∷ []

-- a core did this step: this is its state now, and the code returned this of it
pub record IsStep {Core : Type 0} (step : CoreStep Core) (view : Core) (given : Step) : Type 0 where
  pub core : view ≡ step.core
  pub first : said_of_plans given.plans ≡ map shown step.first
  pub answer : given.answer ≡ step.answer
  pub last : said_of_outcome given.outcome ≡ map shown step.last

-- what a link does of a step: it reports what came first, sends the reply, and reports what came last
abbrev pub ends : List NodeEvent → Outcome Link → Outcome Link
ends last None = None
ends last (Some d) = done d.node (d.events ++ last)

abbrev pub says : ℕ → List NodeEvent → Option PlanMsg → List NodeEvent → Link → Outcome Link
says clock first answer last link = after_events first (ends last (answers clock answer link))

-- the rules of a core's and of services' steps; `kept` says whether the store keeps what a step changes
abbrev pub rules_of : {Core Services : Type 0} → (Bool → Core → Stream → PlanMsg → CoreStep Core)
    → (Services → List NodeEvent → Services) → (Core → Services → Stream → Message → ServiceStep Services) → Bool
    → Rules Core Services
rules_of taken noted served kept = record { take = taken kept; note = noted; serve = served }

-- the services of a node did this step: these are the services now, and the code returned this of it
pub record IsServed {Services : Type 0} (step : ServiceStep Services) (view : Services) (given : Served) : Type 0 where
  pub services : view ≡ step.services
  pub answers : given.answers.items ≡ step.answers
  pub last : events_of given.last.items ≡ map shown step.last
