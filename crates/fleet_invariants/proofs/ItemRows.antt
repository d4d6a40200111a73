-- The items of an `items` line are in range.
use Rattle.std.proofs.Common.{◌≡◌, ℕ, ℤ, zero, suc, pos, negsuc, ◌+◌, ◌-◌, ◌+ℤ◌, ◌<◌, ◌≤◌, ◌^◌, false, arith}
use Rattle.std.specs.Prelude.{All, FitsSigned, nat_le}
use Rattle.std.specs.Int.{w32}
use lib.Signed.{◌<ℤ◌}
use Rattle.std.proofs.lemmas.Int.{ints}
use Rattle.std.proofs.lemmas.Bool.Decides.{nat_tests}
use Rattle.std.proofs.lemmas.List.Elements.{All-nil, All-cons}
use Rattle.plan_items.specs.declared.items.Item.{Item}
use Rattle.plan_ranges.specs.Ranges.{ItemInRange}
use Rattle.scenario_lines.specs.Reasons.{is_too_great, leaves_range}
use Rattle.scenario_lines.specs.ItemRows.{items_from}

test_small : (n : ℕ) → nat_le (2 ^ 31) n ≡ false → n < 2 ^ 31
test_small n e = grind (arith, nat_tests)

not_great : (u : ℤ) → is_too_great u ≡ false → u <ℤ pos 2147483648
not_great (pos n) e = let h = test_small n e in omega (arith, ints, h)
not_great (negsuc n) e = omega (arith, ints)

below : (z : ℤ) (n i : ℕ) → FitsSigned w32 z → is_too_great (z +ℤ pos n) ≡ false → i ≤ n → FitsSigned w32 (z +ℤ pos i)
below z n i h e l = let u = not_great (z +ℤ pos n) e in omega (arith, ints)

rows : (m : ℕ) (first : Item) (n i : ℕ) → ItemInRange first → is_too_great (first.x +ℤ pos n) ≡ false → i + m ≤ n + 1 → All ItemInRange (items_from m first i)
rows zero first n i h e l = All-nil ItemInRange
rows (suc m) first n i h e l =
    All-cons ItemInRange (record first { x = first.x +ℤ pos i }) (items_from m first (i + 1))
    (record { frame = h.frame; command = h.command; current = h.current; autocontinue = h.autocontinue; four = h.four; words = h.words; x = below first.x n i h.x e (omega arith); y = h.y; z = h.z })
    (rows m first n (i + 1) h e (omega arith))

pub rows_in_range : (n : ℕ) (first : Item) → ItemInRange first → 1 ≤ n → leaves_range n first ≡ false → All ItemInRange (items_from n first 0)
rows_in_range n first h some e = rows n first (n - 1) 0 h e (omega arith)
