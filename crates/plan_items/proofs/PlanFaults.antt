-- What the codes and the faults of plans are.
use Rattle.std.proofs.Common.{◌≡◌, ◌≢◌, ℕ, zero, suc, ◌<◌, ◌≤◌, ◌==◌, ◌&&◌, not, true, false, if◌then◌else◌, List, [], ◌∷◌, length, get_or, refl, ◌∙◌, ap, arith}
use Rattle.std.specs.Prelude.{Option, Some, None, All}
use Rattle.std.specs.Option.{option_or}
use Rattle.std.proofs.lemmas.Bool.Decides.{nat_tests}
use Rattle.plan_items.specs.declared.items.Item.{Item}
use Rattle.plan_items.specs.declared.kinds.PlanKind.{PlanKind}
use Rattle.plan_items.specs.declared.faults.PlanFault.{PlanFault}
use Rattle.plan_items.specs.declared.faults.PlanFault.TheVariants.{UnsupportedFrame, Unsupported, InvalidX, InvalidY, InvalidParam1, Invalid}
use Rattle.plan_items.specs.Kinds.{number_of, limit_of, kind_of}
use Rattle.plan_items.specs.Validation.{code_of, item_fault, whole_fault, first_fault, plan_fault, is_grouped, IsValid}
use Rattle.plan_items.proofs.KindNumbers.{number_of-kind_of}

-- a fault's code is from 2 to 11, so it is neither MAV_MISSION_ACCEPTED nor MAV_MISSION_ERROR nor
-- MAV_MISSION_OPERATION_CANCELLED
pub code_of-bounds : (fault : PlanFault) → (2 ≤ code_of fault) × (code_of fault ≤ 11)
code_of-bounds UnsupportedFrame = (omega arith, omega arith)
code_of-bounds Unsupported = (omega arith, omega arith)
code_of-bounds InvalidX = (omega arith, omega arith)
code_of-bounds InvalidY = (omega arith, omega arith)
code_of-bounds InvalidParam1 = (omega arith, omega arith)
code_of-bounds Invalid = (omega arith, omega arith)

pub code_of-not_accepted : (fault : PlanFault) → code_of fault ≢ 0
code_of-not_accepted fault e = let bounds = code_of-bounds fault in absurd (omega (arith, bounds.0))

pub code_of-not_error : (fault : PlanFault) → code_of fault ≢ 1
code_of-not_error fault e = let bounds = code_of-bounds fault in absurd (omega (arith, bounds.0))

pub code_of-not_cancelled : (fault : PlanFault) → code_of fault ≢ 15
code_of-not_cancelled fault e = let bounds = code_of-bounds fault in absurd (omega (arith, bounds.1))

-- an item's fault by the number that a message carried is that by its kind
pub item_fault-kind : (number : ℕ) (kind : PlanKind) (item : Item) → kind_of number ≡ Some kind → item_fault (number_of kind) item ≡ item_fault number item
item_fault-kind number kind item is = ap (λ n. item_fault n item) (number_of-kind_of number kind is)

-- the same of a plan's
pub plan_fault-kind : (number : ℕ) (kind : PlanKind) (items : List Item) → kind_of number ≡ Some kind → plan_fault (number_of kind) items ≡ plan_fault number items
plan_fault-kind number kind items is = ap (λ n. plan_fault n items) (number_of-kind_of number kind is)

-- an empty plan has no fault of the whole
pub whole_fault-empty : (kind : ℕ) → whole_fault kind [] ≡ None
unfolding whole_fault
whole_fault-empty kind = elim (kind == 1) as (λ b. (if b && not true then Some Invalid else None) ≡ None) [ true ↦ refl | false ↦ refl ]

-- only a fence has a fault of the whole
pub whole_fault-other : (kind : ℕ) (items : List Item) → kind ≢ 1 → whole_fault kind items ≡ None
unfolding whole_fault
whole_fault-other kind items other =
    let test : (kind == 1) ≡ false = grind (arith, nat_tests) in
    ap (λ b. if b && not (is_grouped 0 items) then Some Invalid else None) test

-- the fault of the whole is Invalid
pub whole_fault-Some : (kind : ℕ) (items : List Item) (fault : PlanFault) → whole_fault kind items ≡ Some fault → fault ≡ Invalid
unfolding whole_fault
whole_fault-Some kind items fault = elim ((kind == 1) && not (is_grouped 0 items)) as (λ b. (if b then Some Invalid else None) ≡ Some fault → fault ≡ Invalid) [
  | true ↦ λ is. cc
  | false ↦ λ is. absurd (cc)
]

-- if no item has a fault there is no first
pub first_fault-None : (kind : ℕ) (items : List Item) → All (λ item. item_fault kind item ≡ None) items → first_fault kind items ≡ None
first_fault-None kind [] sound = refl
first_fault-None kind (item ∷ rest) sound =
    ap (λ fault. option_or fault (first_fault kind rest)) (sound 0 item (omega arith))
    ∙ first_fault-None kind rest (λ k d below. sound (suc k) d (omega (arith, below)))

or_none : (fault other : Option PlanFault) → option_or fault other ≡ None → (fault ≡ None) × (other ≡ None)
or_none None other e = (refl, e)
or_none (Some fault) other e = absurd (cc)

-- if there is no first fault no item has one
pub first_fault-All : (kind : ℕ) (items : List Item) → first_fault kind items ≡ None → All (λ item. item_fault kind item ≡ None) items
first_fault-All kind [] none = λ k d below. absurd (omega (arith, below))
first_fault-All kind (item ∷ rest) none =
    let parts = or_none (item_fault kind item) (first_fault kind rest) none in
    λ k d below. at_place parts.0 (first_fault-All kind rest parts.1) k d below
  where
    at_place : item_fault kind item ≡ None → All (λ item. item_fault kind item ≡ None) rest → (k : ℕ) (d : Item) → k < length (item ∷ rest) → item_fault kind (get_or (item ∷ rest) k d) ≡ None
    at_place here behind zero d below = here
    at_place here behind (suc k) d below = behind k d (omega (arith, below))

-- if no item has a fault the plan's is that of the whole
pub plan_fault-whole : (kind : ℕ) (items : List Item) → All (λ item. item_fault kind item ≡ None) items → plan_fault kind items ≡ whole_fault kind items
unfolding plan_fault
plan_fault-whole kind items sound = ap (λ fault. option_or fault (whole_fault kind items)) (first_fault-None kind items sound)

-- a valid plan has no fault
pub plan_fault-IsValid : (kind : ℕ) (items : List Item) → IsValid kind items → plan_fault kind items ≡ None
plan_fault-IsValid kind items valid = plan_fault-whole kind items valid.items_sound ∙ valid.whole_sound

-- a plan without a fault, not empty and within the limit is valid
pub IsValid-plan_fault : (kind : ℕ) (items : List Item) → 0 < length items → length items ≤ limit_of kind → plan_fault kind items ≡ None → IsValid kind items
unfolding plan_fault
IsValid-plan_fault kind items some within none =
    let parts = or_none (first_fault kind items) (whole_fault kind items) none in
    record { not_empty = some; within = within; items_sound = first_fault-All kind items parts.0; whole_sound = parts.1 }
