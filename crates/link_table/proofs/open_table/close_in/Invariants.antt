use Rattle.std.proofs.Common.{◌≡◌, ◌<◌, ◌≤◌, ℕ, length, get_or}
use Rattle.link_table.specs.OpenLinks.{bit_without, has_link}
use Rattle.link_table.proofs.open_table.close_in.Given as goal

abbrev pub invariant-loop-at : goal.invariant-loop-at
invariant-loop-at l =
    ((i k : ℕ) → i < l.at → has_link (get_or l.words.items i 0) k ≡ bit_without (get_or l.fn.words.items i 0) l.link k)
    × ((i : ℕ) → l.at ≤ i → get_or l.words.items i 0 ≡ get_or l.fn.words.items i 0)
    × (length l.words.items ≡ length l.fn.words.items)
