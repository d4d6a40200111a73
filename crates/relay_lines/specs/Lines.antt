-- Lines that wait to be written, and those that are lost because too much waits.
use Rattle.std.specs.Prelude.{ℕ, ◌+◌, ◌-◌, ◌^◌, ◌==◌, nat_le, nat_lt, min, Bool, if◌then◌else◌, List, [], ◌∷◌, ◌++◌}
use Rattle.std.specs.Prelude.{length, drop, codes}
use Rattle.std.specs.Fmt.{decimal}

-- the bytes of the lines that wait, the first perhaps without a part that was written, and how many lines were lost
-- since the last line that tells it
pub record LinesState : Type 0 where
  pub waiting : List ℕ
  pub lost : ℕ

abbrev pub lines_of : List ℕ → ℕ → LinesState
lines_of waiting lost = record { waiting = waiting; lost = lost }

-- at most 64 KiB wait
abbrev pub lines_limit : ℕ
lines_limit = 65536

-- what is counted stops at the greatest number of 64 bits
abbrev pub most_lost : ℕ
most_lost = 2 ^ 64 - 1

-- a line tells that so many were lost
abbrev pub lost_line : ℕ → List ℕ
lost_line lost = codes "lines lost " ++ (decimal lost ++ codes "\n")

-- if any were
abbrev pub lost_before : ℕ → List ℕ
lost_before lost = if nat_lt 0 lost then lost_line lost else []

-- the bytes up to the first end of a line, and with it
abbrev pub first_line : List ℕ → List ℕ
first_line [] = []
first_line (b ∷ bs) = if b == 10 then b ∷ [] else b ∷ first_line bs

abbrev pub is_empty : LinesState → Bool
is_empty lines = length lines.waiting == 0

-- how many were lost is told behind the lines that wait
abbrev pub tell : LinesState → LinesState
tell lines = lines_of (lines.waiting ++ lost_before lines.lost) 0

-- at the latest once no other line waits
abbrev pub tell_last : LinesState → LinesState
tell_last lines = if is_empty lines then tell lines else lines

-- a line has room behind the others and what tells how many were lost before it
abbrev pub has_room : List ℕ → LinesState → Bool
has_room line lines = nat_le (length (tell lines).waiting + length line) lines_limit

-- a line more is lost
abbrev pub one_lost : LinesState → LinesState
one_lost lines = lines_of lines.waiting (min (lines.lost + 1) most_lost)

-- a line waits, or is lost
abbrev pub line_put : List ℕ → LinesState → LinesState
line_put line lines =
    if has_room line lines then lines_of ((tell lines).waiting ++ line) 0 else tell_last (one_lost lines)

-- so many bytes of the first line were written
abbrev pub line_written : ℕ → LinesState → LinesState
line_written count lines = tell_last (lines_of (drop count lines.waiting) lines.lost)
