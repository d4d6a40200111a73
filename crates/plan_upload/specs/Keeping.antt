-- What of a drone a store is asked to keep.
use Rattle.std.specs.Prelude.{◌≤◌, List, [], Option, Some, None}
use Rattle.plan_items.specs.declared.items.Item.{Item}
use Rattle.plan_items.specs.declared.messages.PlanMsg.{PlanMsg}
use Rattle.plan_items.specs.declared.messages.PlanMsg.TheVariants.{Item as Give}
use Rattle.plan_items.specs.Validation.{IsValid}
use Rattle.plan_upload.specs.Drone.{Upload}

-- an open upload has a kind of plan
abbrev pub HasKind : Option Upload → Type 0
HasKind None = Unit {0}
HasKind (Some u) = u.kind ≤ 2

-- the items gathered so far
abbrev pub gathered_in : Option Upload → List Item
gathered_in None = []
gathered_in (Some u) = u.items

-- the item that a message carries
abbrev pub carried : PlanMsg → Option Item
carried (Give to seq kind item) = Some item
carried m = None

-- a plan of the upload's kind is valid
abbrev pub IsValidIn : Option Upload → List Item → Type 0
IsValidIn None items = Unit {0}
IsValidIn (Some u) items = IsValid u.kind items
