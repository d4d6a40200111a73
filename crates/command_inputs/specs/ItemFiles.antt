-- A file of items: what its lines say, and the items that they give.
use Rattle.std.specs.Prelude.{ℕ, List, [], ◌∷◌, ◌++◌, length, Option, Some, None, Ok, Err}
use Rattle.std.specs.declared.result.Result.{Result}
use Rattle.plan_items.specs.declared.items.Item.{Item}
use Rattle.plan_items.specs.declared.plans.Plan.{Plan}
use Rattle.plan_items.specs.Plans.{items_of}
use Rattle.scenario_lines.specs.declared.faults.Reason.{Reason}
use Rattle.scenario_lines.specs.declared.lines.Line.{Line}
use Rattle.scenario_lines.specs.declared.lines.Line.TheVariants.{Item as OneItem, Items}
use Rattle.scenario_lines.specs.Grammar.{line_of}
use Rattle.scenario_lines.specs.ItemRows.{items_from}
use Rattle.scenario_lines.specs.Reasons.{item_reason_against}
use Rattle.run_status.specs.Runs.{CommandSpec}
use Rattle.command_inputs.specs.Takers.{Says, lines_spec, HoldsLines}

-- the items that a line adds; in a file of items no line but these two adds any
abbrev pub items_in : Line → List Item
items_in (OneItem item) = item ∷ []
items_in (Items n first) = items_from n first 0
items_in _ = []

-- a line's items join those before, unless there is a reason against it
abbrev pub items_said : List Item → List ℕ → Option Reason → Result (List Item) Reason
items_said items text None = Ok (items ++ items_in (line_of text))
items_said items text (Some reason) = Err reason

abbrev pub items_say : Says (List Item)
items_say items text = items_said items text (item_reason_against (length items) text)

-- a file of items stops a run at its first bad line, and nothing is written of it
abbrev pub plan_spec : CommandSpec
plan_spec = lines_spec items_say []

-- an input was taken to its end, and its bytes give exactly these items
abbrev pub HoldsItems : Type 0 → (left_before left_after : Option (List ℕ)) → (items : List Item) → Type 0
HoldsItems spent left_before left_after items = HoldsLines items_say [] spent left_before left_after items

abbrev pub HoldsPlan : Type 0 → (left_before left_after : Option (List ℕ)) → (plan : Plan) → Type 0
HoldsPlan spent left_before left_after plan = HoldsItems spent left_before left_after (items_of plan)
