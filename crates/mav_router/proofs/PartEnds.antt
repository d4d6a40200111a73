-- What a part is at the end of its thread.
use Rattle.std.proofs.Common.{ℕ}
use Rattle.mav_links.specs.Links.{LinkState}
use Rattle.mav_router.specs.declared.parts.Halt.{Halt}
use Rattle.mav_router.specs.declared.parts.Halt.TheVariants.{Done, Stopped, Fault}
use Rattle.mav_router.specs.declared.parts.Part.{Part}
use Rattle.mav_router.specs.Journal.{Rules}
use Rattle.mav_router.specs.Parts.{PartEnds}

-- how it ended may be kept in it
pub ends_kept : {A : Type 0} (halt kept : Halt) (state : A → LinkState) (rules : Rules) (turns : ℕ) (first : LinkState) (part : Part A) → PartEnds halt state rules turns first part → PartEnds halt state rules turns first (record part { side = record part.side { halt = kept } })
ends_kept Done kept state rules turns first part e = (record { input = e.0.input; output = e.0.output }, e.1)
ends_kept Stopped kept state rules turns first part e = (record { input = e.0.input; output = e.0.output }, e.1)
ends_kept (Fault why) kept state rules turns first part e = (record { input = e.0.input; output = e.0.output }, e.1)
