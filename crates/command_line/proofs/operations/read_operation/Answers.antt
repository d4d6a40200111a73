use Rattle.std.proofs.Common.{ℕ, ◌<◌, ◌≤◌, rules, arith}
use Rattle.command_line.proofs.NodesHeld.{no_operation}
use Rattle.command_line.proofs.operations.read_operation.Goals.{in_default-via-then-words-lt2, in_default-via-else-words-lt2+else-words-lt3+else-words-lt4+then-words-lt5, in_default-via-else-words-lt2+else-words-lt3+else-words-lt4+else-words-lt5+else-words-lt6}
use Rattle.command_line.proofs.operations.read_operation.Goals as goal

within : (k n len : ℕ) → k < n → n ≤ len → k < len
within k n len inside least = omega arith

is_0_2 : 0 < 2
is_0_2 = omega arith

is_1_2 : 1 < 2
is_1_2 = omega arith

is_0_3 : 0 < 3
is_0_3 = omega arith

is_1_3 : 1 < 3
is_1_3 = omega arith

is_2_3 : 2 < 3
is_2_3 = omega arith

is_0_5 : 0 < 5
is_0_5 = omega arith

is_1_5 : 1 < 5
is_1_5 = omega arith

is_2_5 : 2 < 5
is_2_5 = omega arith

is_3_5 : 3 < 5
is_3_5 = omega arith

is_4_5 : 4 < 5
is_4_5 = omega arith

pub bounds-words-0 : goal.bounds-words-0
bounds-words-0 c = within 0 2 _ is_0_2 c.in-len2.len_at_least

pub bounds-words-1 : goal.bounds-words-1
bounds-words-1 c = within 1 2 _ is_1_2 c.in-len2.len_at_least

pub bounds-words-0-then-words-lt4 : goal.bounds-words-0-then-words-lt4
bounds-words-0-then-words-lt4 c = within 0 3 _ is_0_3 c.in-len3.len_at_least

pub bounds-words-1-then-words-lt4 : goal.bounds-words-1-then-words-lt4
bounds-words-1-then-words-lt4 c = within 1 3 _ is_1_3 c.in-len3.len_at_least

pub bounds-words-2 : goal.bounds-words-2
bounds-words-2 c = within 2 3 _ is_2_3 c.in-len3.len_at_least

pub bounds-words-0-then-words-lt6 : goal.bounds-words-0-then-words-lt6
bounds-words-0-then-words-lt6 c = within 0 5 _ is_0_5 c.in-len5.len_at_least

pub bounds-words-1-then-words-lt6 : goal.bounds-words-1-then-words-lt6
bounds-words-1-then-words-lt6 c = within 1 5 _ is_1_5 c.in-len5.len_at_least

pub bounds-words-2-then-words-lt6 : goal.bounds-words-2-then-words-lt6
bounds-words-2-then-words-lt6 c = within 2 5 _ is_2_5 c.in-len5.len_at_least

pub bounds-words-3 : goal.bounds-words-3
bounds-words-3 c = within 3 5 _ is_3_5 c.in-len5.len_at_least

pub bounds-words-4 : goal.bounds-words-4
bounds-words-4 c = within 4 5 _ is_4_5 c.in-len5.len_at_least

pub returns-in_default : goal.returns-in_default
returns-in_default c =
    no_operation c.args.words.now
    (λ least most. elim c.in_default.branch [ in_default-via-then-words-lt2 w ↦ search rules | in_default-via-else-words-lt2+else-words-lt3+else-words-lt4+then-words-lt5 w ↦ search rules | in_default-via-else-words-lt2+else-words-lt3+else-words-lt4+else-words-lt5+else-words-lt6 w ↦ search rules ])
    (λ least most. elim c.in_default.branch [ in_default-via-then-words-lt2 w ↦ search rules | in_default-via-else-words-lt2+else-words-lt3+else-words-lt4+then-words-lt5 w ↦ search rules | in_default-via-else-words-lt2+else-words-lt3+else-words-lt4+else-words-lt5+else-words-lt6 w ↦ search rules ])
    (λ least most. elim c.in_default.branch [ in_default-via-then-words-lt2 w ↦ search rules | in_default-via-else-words-lt2+else-words-lt3+else-words-lt4+then-words-lt5 w ↦ search rules | in_default-via-else-words-lt2+else-words-lt3+else-words-lt4+else-words-lt5+else-words-lt6 w ↦ search rules ])
