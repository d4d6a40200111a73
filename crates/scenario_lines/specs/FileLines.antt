-- The bytes of a scenario, or of another file that is read line by line, as lines.
use Rattle.std.specs.Prelude.{ℕ, ◌-◌, ◌==◌, Bool, if◌then◌else◌, List, [], ◌∷◌, length, take, slice_index}
use Rattle.std.specs.List.{slice_split}

-- lines end with LF
abbrev pub is_newline : ℕ → Bool
is_newline b = b == 10

-- the parts but the last, and the last
abbrev pub but_last : List (List ℕ) → List (List ℕ)
but_last [] = []
but_last (part ∷ []) = []
but_last (part ∷ next ∷ more) = part ∷ but_last (next ∷ more)

abbrev pub last_part : List (List ℕ) → List ℕ
last_part [] = []
last_part (part ∷ []) = part
last_part (part ∷ next ∷ more) = last_part (next ∷ more)

-- the whole lines of some bytes, without their LF, and the bytes after the last LF
abbrev pub whole_lines : List ℕ → List (List ℕ)
whole_lines bytes = but_last (slice_split is_newline bytes)

abbrev pub unfinished : List ℕ → List ℕ
unfinished bytes = last_part (slice_split is_newline bytes)

-- a CR before the LF is no part of what the line says
abbrev pub without_cr : List ℕ → List ℕ
without_cr raw = if slice_index raw (length raw - 1) == 13 then take (length raw - 1) raw else raw

-- how many lines are read at most
abbrev pub most_lines : ℕ
most_lines = 100000
