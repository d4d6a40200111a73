-- The items of a line `items`.
use Rattle.std.specs.Prelude.{ℕ, zero, suc, ◌+◌, List, [], ◌∷◌, pos, ◌+ℤ◌}
use Rattle.plan_items.specs.declared.items.Item.{Item}

-- n items, the i-th from 0 with the x of the first plus i
abbrev pub items_from : ℕ → Item → ℕ → List Item
items_from zero first i = []
items_from (suc n) first i = record first { x = first.x +ℤ pos i } ∷ items_from n first (i + 1)
