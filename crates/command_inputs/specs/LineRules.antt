-- Bytes that are read line by line, whatever the lines lead to.
use Rattle.std.specs.Prelude.{ℕ, ◌+◌, nat_lt, Bool, true, false, if◌then◌else◌, List, [], ◌∷◌, length, Option, Some}
use Rattle.std.specs.Prelude.{None}
use Rattle.scenario_lines.specs.Grammar.{most_line_bytes}
use Rattle.scenario_lines.specs.FileLines.{whole_lines, unfinished, without_cr, most_lines}

-- what lines do: `R` is what those so far led to, `E` why they stop
pub record LineRules (R E : Type 0) : Type 0 where
  -- why they stopped, if they did
  pub stop : R → Option E
  -- line `number`, by its text
  pub text : R → ℕ → List ℕ → R
  -- line `number` has too many bytes
  pub long : R → ℕ → R
  -- there are too many lines
  pub many : R → R

abbrev pub unless_stopped : {R E : Type 0} → Option E → R → R → R
unless_stopped None r next = next
unless_stopped (Some stop) r next = r

-- line `number`, with its CR, which is no part of what it says
abbrev pub line_read : {R E : Type 0} → LineRules R E → R → ℕ → List ℕ → R
line_read rules r number raw =
    if nat_lt most_lines number then rules.many r
    else if nat_lt most_line_bytes (length raw) then rules.long r number
    else rules.text r number (without_cr raw)

-- the lines from `number` on, up to the first that stops
abbrev pub lines_read : {R E : Type 0} → LineRules R E → R → ℕ → List (List ℕ) → R
lines_read rules r number [] = r
lines_read rules r number (raw ∷ more) =
    unless_stopped (rules.stop r) r (lines_read rules (line_read rules r number raw) (number + 1) more)

-- a last line without LF keeps its CR, and counts if it isn't empty
abbrev pub last_read : {R E : Type 0} → LineRules R E → R → ℕ → List ℕ → R
last_read rules r number [] = r
last_read rules r number (b ∷ bs) =
    if nat_lt most_lines number then rules.many r
    else if nat_lt most_line_bytes (length (b ∷ bs)) then rules.long r number
    else rules.text r number (b ∷ bs)

-- an unfinished line stops as soon as it is too long
abbrev pub part_read : {R E : Type 0} → LineRules R E → R → ℕ → List ℕ → R
part_read rules r number part =
    if nat_lt most_line_bytes (length part)
    then (if nat_lt most_lines number then rules.many r else rules.long r number)
    else r

abbrev pub rest_read : {R E : Type 0} → LineRules R E → Bool → R → ℕ → List ℕ → R
rest_read rules true r number rest = last_read rules r number rest
rest_read rules false r number rest = part_read rules r number rest

-- what the bytes that were taken lead to; `ended` says whether the input ended after them
abbrev pub bytes_read : {R E : Type 0} → LineRules R E → R → Bool → List ℕ → R
bytes_read rules start ended bytes =
    let lines = lines_read rules start 1 (whole_lines bytes) in
    unless_stopped (rules.stop lines) lines (rest_read rules ended lines (length (whole_lines bytes) + 1)
    (unfinished bytes))
