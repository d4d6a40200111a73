-- How a run ends that reads a plan.
use Rattle.std.proofs.Common.{◌≡◌, ◌∙◌, ℕ, List, [], ◌++◌, length, refl, sym, subst, ap, Option, Some, None, Result, Ok, Err, OnOk, IfErr}
use Rattle.plan_items.specs.declared.items.Item.{Item}
use Rattle.scenario_lines.specs.declared.faults.LineFault.{LineFault}
use Rattle.scenario_lines.specs.declared.faults.LineFault.TheVariants.{Bad, NoMemory}
use Rattle.scenario_lines.specs.Faults.{IfBad}
use Rattle.scenario_lines.specs.Grammar.{line_of}
use Rattle.scenario_lines.specs.Reasons.{item_reason_against}
use Rattle.run_status.specs.declared.run_ends.RunEnd.{RunEnd}
use Rattle.run_status.specs.Runs.{port_outcome, RunBeforeStatus, Steady}
use Rattle.command_inputs.specs.Takers.{FaultSays, HaltsLines, HoldsLines}
use Rattle.command_inputs.proofs.LineEndings.{Follows, halts_before_status}
use Rattle.command_inputs.proofs.LineStays.{lines_steady}
use Rattle.command_inputs.specs.ItemFiles.{items_in, items_said, items_say, plan_spec, HoldsItems}

-- a line that was added is what it says
pub line_said : (result : Result (Unit {0}) LineFault) (old new : List Item) (text : List ℕ) → OnOk result ((item_reason_against (length old) text ≡ None) × (new ≡ old ++ items_in (line_of text)))
    → IfErr result (λ e. IfBad e (λ r. item_reason_against (length old) text ≡ Some r)) → FaultSays result (items_say old text) new
line_said (Ok done) old new text (good, added) bad = ap (items_said old text) good ∙ ap Ok (sym added)
line_said (Err (Bad reason)) old new text good bad = ap (items_said old text) bad
line_said (Err NoMemory) old new text good bad = tt

pub holds_items : (start items : List Item) (spent : Type 0) (lb la : Option (List ℕ)) → start ≡ [] → HoldsLines items_say start spent lb la items → HoldsItems spent lb la items
holds_items start items spent lb la none h = subst (λ (first : List Item). HoldsLines items_say first spent lb la items) none h

pub plan_halts : (start : List Item) (spent : Type 0) (fb fa ib ia refusals : ℕ) (lb la sent : Option (List ℕ)) (run_end : RunEnd) → start ≡ [] → HaltsLines items_say start (port_outcome spent fb fa ib ia 0 0) lb la run_end
    → RunBeforeStatus plan_spec (port_outcome spent fb fa ib ia refusals refusals) lb la sent sent (Some run_end)
plan_halts start spent fb fa ib ia refusals lb la sent run_end none h =
    let follows : Follows plan_spec items_say [] = record { stops = λ ended taken stop e. e; goes_on = λ taken e. e; silent = λ ended taken. refl } in
    halts_before_status plan_spec items_say [] follows spent fb fa ib ia refusals lb la sent run_end
    (subst (λ (first : List Item). HaltsLines items_say first (port_outcome spent fb fa ib ia 0 0) lb la run_end) none h)

pub plan_steady : Steady plan_spec
plan_steady = lines_steady items_say []
