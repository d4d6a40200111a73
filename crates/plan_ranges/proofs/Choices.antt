-- What an `if` chooses, and lists of items.
use Rattle.std.proofs.Common.{◌≡◌, ℕ, zero, suc, ◌+◌, ◌<◌, ◌≤◌, Bool, true, false, if◌then◌else◌, ◌==◌, nat_lt, List, [], ◌∷◌, ◌++◌, length, IfSome, refl, arith, length-append}
use Rattle.std.specs.Prelude.{All, slice_get}
use Rattle.std.proofs.lemmas.List.Elements.{All-nil, All-head, All-tail}
use Rattle.plan_items.specs.declared.items.Item.{Item}
use Rattle.plan_ranges.specs.Ranges.{ItemInRange, PlanInRange}

-- what holds of either branch holds of the choice
pub by_test : {A : Type 0} (P : A → Type 0) (b : Bool) (x y : A) → (b ≡ true → P x) → (b ≡ false → P y) → P (if b then x else y)
by_test P true x y f g = f refl
by_test P false x y f g = g refl

-- numbers
pub less : (a b : ℕ) → nat_lt a b ≡ true → a < b
less a b e = grind arith

pub not_less : (a b : ℕ) → nat_lt a b ≡ false → b ≤ a
not_less a b e = grind arith

pub not_zero : (n : ℕ) → (n == 0) ≡ false → 0 < n
not_zero n e = grind arith

-- an item of a list in range, if there is one
pub item_at : (items : List Item) (k : ℕ) → All ItemInRange items → IfSome (slice_get items k) ItemInRange
item_at [] k h = tt
item_at (x ∷ xs) zero h = All-head ItemInRange x xs h
item_at (x ∷ xs) (suc k) h = item_at xs k (All-tail ItemInRange x xs h)

-- one more item
pub one_more : (items : List Item) (item : Item) → length (items ++ item ∷ []) ≡ length items + 1
one_more items item = length-append items (item ∷ [])

pub no_items : PlanInRange []
no_items = record { size = omega arith; items = All-nil ItemInRange }
