-- One item after another of a line `items`.
use Rattle.std.proofs.Common.{◌≡◌, ◌∙◌, ◌<◌, ◌+◌, ◌-◌, ℕ, suc, List, [], ◌∷◌, ◌++◌, pos, ◌+ℤ◌, ap, sym, arith, append_assoc}
use Rattle.plan_items.specs.declared.items.Item.{Item}
use Rattle.scenario_lines.specs.ItemRows.{items_from}

-- one more of the items
pub items_from-one : (items all : List Item) (first : Item) (count i : ℕ) → i < count → items ++ items_from (count - i) first i ≡ all → (items ++ record first { x = first.x +ℤ pos i } ∷ []) ++ items_from (count - (i + 1)) first (i + 1) ≡ all
items_from-one items all first count i h e =
    let one : count - i ≡ suc (count - (i + 1)) = omega arith in
    append_assoc items (record first { x = first.x +ℤ pos i } ∷ []) (items_from (count - (i + 1)) first (i + 1))
    ∙ sym (ap (λ n. items ++ items_from n first i) one) ∙ e
