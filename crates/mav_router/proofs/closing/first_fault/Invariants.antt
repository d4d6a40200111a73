use Rattle.std.proofs.Common.{◌≡◌, ◌<◌, ℕ, Some, None, IfSome, slice_get}
use Rattle.mav_router.specs.declared.entries.SwitchFault.TheVariants.{NoMemory}
use Rattle.mav_router.specs.declared.parts.Halt.TheVariants.{Done}
use Rattle.mav_router.specs.declared.parts.Side.{Side}
use Rattle.mav_router.proofs.closing.first_fault.Given as goal

abbrev pub invariant-loop-at : goal.invariant-loop-at
invariant-loop-at g l = record {
  none : l.found ≡ None → (k : ℕ) (side : Side g.row.L.Denot) → k < l.at → slice_get l.sides k ≡ Some side → side.halt ≡ Done;
  some : IfSome l.found (λ why. why ≡ NoMemory);
}
