-- The parts of all ports.
use Rattle.std.specs.Prelude.{ℕ, ◌≡◌, List, slice_get, Some}
use Rattle.mav_links.specs.Links.{LinkState}
use Rattle.turnstile.specs.Participants.{Lock}
use Rattle.mav_router.specs.declared.history.SwitchEvent.{SwitchEvent}
use Rattle.mav_router.specs.declared.entries.SwitchFault.{SwitchFault}
use Rattle.mav_router.specs.declared.parts.Halt.{Halt}
use Rattle.mav_router.specs.declared.parts.Halt.TheVariants.{Fault}
use Rattle.mav_router.specs.declared.parts.Part.{Part}
use Rattle.mav_router.specs.declared.parts.Side.{Side}
use Rattle.mav_router.specs.Journal.{Rules}
use Rattle.mav_router.specs.Parts.{IsReady, PartSoFar, PartEnds}

-- a part before and after its thread, which ended so
pub record HasRun {A : Type 0} (halt : Halt) (state : A → LinkState) (lock : Lock SwitchEvent) (rules : Rules)
    (turns : ℕ) (before after : Part A) : Type 0 where
  pub ready : IsReady lock rules after
  pub port : after.port ≡ before.port
  pub ends : (first : LinkState) → PartSoFar state rules first before → PartEnds halt state rules turns first after

-- the thread of one of the ports ended with this fault
pub record HasFault {A : Type 0} (sides : List (Side A)) (why : SwitchFault) : Type 0 where
  pub at : ℕ
  pub side : Side A
  pub there : slice_get sides at ≡ Some side
  pub fault : side.halt ≡ Fault why
