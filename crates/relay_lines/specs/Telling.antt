-- What becomes of the lines that were put.
use Rattle.std.specs.Prelude.{ℕ, ◌+◌, ◌==◌, Bool, true, false, if◌then◌else◌, ◌≡◌, ◌<◌, ◌≤◌, ⊤, min, List, [], ◌∷◌}
use Rattle.std.specs.Prelude.{◌++◌, length, take}
use Rattle.std.specs.List.{flat_map}
use Rattle.relay_lines.specs.Lines.{LinesState, first_line, line_put, line_written, lines_limit, lines_of, lost_before}
use Rattle.relay_lines.specs.Lines.{lost_line, most_lost}

-- a line that is written tells what was put, or how many lines one after another were lost
pub data Said : Type 0 where
  Line : (line : List ℕ) → Said
  Lost : (lines : List (List ℕ)) → Said

abbrev pub said_text : Said → List ℕ
said_text (Line line) = line
said_text (Lost lines) = lost_line (min (length lines) most_lost)

-- the lines that were put for which it stands
abbrev pub said_of : Said → List (List ℕ)
said_of (Line line) = line ∷ []
said_of (Lost lines) = lines

-- none tells that no line was lost
abbrev pub NoneForNothing : List Said → Type 0
NoneForNothing [] = ⊤
NoneForNothing (Line line ∷ rest) = NoneForNothing rest
NoneForNothing (Lost lines ∷ rest) = (0 < length lines) × NoneForNothing rest

-- the bytes written and those that wait are the lines that were put, in their order, but that each run of lost ones is
-- one line that tells how many; the last ones that were lost may not be told yet
pub record Tells (put : List (List ℕ)) (written : List ℕ) (lines : LinesState) : Type 0 where
  pub said : List Said
  pub missing : List (List ℕ)
  pub every : put ≡ flat_map said_of said ++ missing
  pub count : lines.lost ≡ min (length missing) most_lost
  pub true_ones : NoneForNothing said
  pub bytes : flat_map said_text said ≡ written ++ lines.waiting

-- before the first line; each line that is put; each write
abbrev pub TellsNew : Type 0
TellsNew = Tells [] [] (lines_of [] 0)

abbrev pub TellsPut : Type 0
TellsPut = (all : List (List ℕ)) (written line : List ℕ) (lines : LinesState) → Tells all written lines
    → Tells (all ++ line ∷ []) written (line_put line lines)

abbrev pub TellsWrote : Type 0
TellsWrote = (all : List (List ℕ)) (written : List ℕ) (count : ℕ) (lines : LinesState) → Tells all written lines
    → count ≤ length (first_line lines.waiting)
    → Tells all (written ++ take count (first_line lines.waiting)) (line_written count lines)

-- once no line waits, how many were lost is told
abbrev pub IsAllTold : LinesState → Type 0
IsAllTold lines = length lines.waiting ≡ 0 → lines.lost ≡ 0

abbrev pub TellsAll : Type 0
TellsAll = (line : List ℕ) (count : ℕ) (lines : LinesState)
    → IsAllTold (line_put line lines) × IsAllTold (line_written count lines)

-- a line waits behind the others, and what tells how many were lost before it, if that leaves 64 KiB at most
abbrev pub TellsRoom : Type 0
TellsRoom = (line : List ℕ) (lines : LinesState)
    → length (lines.waiting ++ lost_before lines.lost) + length line ≤ lines_limit
    → line_put line lines ≡ lines_of ((lines.waiting ++ lost_before lines.lost) ++ line) 0

-- a line has its end, and no other end of a line
abbrev pub is_line : List ℕ → Bool
is_line [] = false
is_line (b ∷ bs) = if b == 10 then length bs == 0 else is_line bs

abbrev pub AreLines : List (List ℕ) → Type 0
AreLines [] = ⊤
AreLines (line ∷ lines) = (is_line line ≡ true) × AreLines lines

-- what is given to be written is a line of these, or the rest of one of which a part was written
pub record GivesLine (said : List Said) (written waiting : List ℕ) : Type 0 where
  pub before : List Said
  pub next : Said
  pub later : List Said
  pub part : List ℕ
  pub all : said ≡ before ++ next ∷ later
  pub bytes : written ≡ flat_map said_text before ++ part
  pub rest : said_text next ≡ part ++ first_line waiting

-- if each that was put is a line, as long as some wait
abbrev pub TellsNext : Type 0
TellsNext = (all : List (List ℕ)) (written : List ℕ) (lines : LinesState) (tells : Tells all written lines)
    → AreLines all → 0 < length lines.waiting → GivesLine tells.said written lines.waiting
