-- The sums of a report: how many of its lines report what, and its closing plans.
use Rattle.std.specs.Prelude.{ℕ, ◌+◌, ◌==◌, ◌&&◌, nat_le, Bool, false, if◌then◌else◌, List, [], ◌∷◌, ◌++◌, length}
use Rattle.std.specs.Prelude.{take, codes}
use Rattle.std.specs.List.{slice_split}
use Rattle.std.specs.Str.{bytes_eq}
use Rattle.std.specs.Fmt.{decimal}
use Rattle.scenario_maker.specs.Generator.{text_of}

-- the lines of a report, each without its LF; nothing follows the last LF, and that is one more line without a byte
abbrev pub report_lines : List ℕ → List (List ℕ)
report_lines report = slice_split (λ b. b == 10) report

-- a line begins with these bytes
abbrev pub begins : List ℕ → List ℕ → Bool
begins word line = bytes_eq (take (length word) line) word

-- how many lines do
abbrev pub counted : List ℕ → List (List ℕ) → ℕ
counted word [] = 0
counted word (line ∷ lines) = (if begins word line then 1 else 0) + counted word lines

abbrev pub is_plan : List ℕ → Bool
is_plan line = begins (codes "plan ") line

-- a line begins with a number: that of a frame does, and after the first closing plan that of an item
abbrev pub is_numbered : List ℕ → Bool
is_numbered [] = false
is_numbered (b ∷ bs) = nat_le 48 b && nat_le b 57

abbrev pub frames_in : List (List ℕ) → ℕ
frames_in [] = 0
frames_in (line ∷ lines) = if is_plan line then 0 else (if is_numbered line then 1 else 0) + frames_in lines

-- the closing plans, without the lines of their items
abbrev pub plans_in : List (List ℕ) → List (List ℕ)
plans_in [] = []
plans_in (line ∷ lines) = if is_plan line then line ∷ plans_in lines else plans_in lines

-- `WORD N`
abbrev pub sum_text : List ℕ → ℕ → List ℕ
sum_text word n = word ++ codes " " ++ decimal n ++ 10 ∷ []

abbrev pub counts_text : List (List ℕ) → List ℕ
counts_text lines =
    sum_text (codes "rounds") 200 ++ sum_text (codes "frames") (frames_in lines)
    ++ sum_text (codes "installs") (counted (codes "install ") lines)
    ++ sum_text (codes "outcomes") (counted (codes "outcome ") lines)
    ++ sum_text (codes "drops") (counted (codes "drop ") lines)
    ++ sum_text (codes "refused") (counted (codes "refused ") lines)

abbrev pub sums_text : List ℕ → List ℕ
sums_text report = counts_text (report_lines report) ++ text_of (plans_in (report_lines report))
