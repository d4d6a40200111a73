-- The parse of a whole log into rows and skipped bytes.
use Rattle.std.specs.Prelude.{ℕ, ◌≡◌, Bool, true, false, List, [], ◌∷◌, ◌++◌, drop}
use Rattle.mav_frame.specs.Encoding.{IsSealed}
use Rattle.mav_frame.specs.Parse.{IsIncomplete, SkipReason}
use Rattle.mav_frame.specs.declared.looks.Why.{Why}
use Rattle.log_rows.specs.Rows.{row_encoding, FitsRow}
use Rattle.log_rows.specs.declared.rows.Row.{Row}

-- a row, or a skipped byte and why no row begins there
pub data LogEvent : Type 0 where
  RowEvent : Row → LogEvent
  SkipEvent : ℕ → Why → LogEvent

-- no prefix of the bytes encodes a row
abbrev pub NoRow : List (ℕ × ℕ) → List ℕ → Type 0
NoRow extras b = (row : Row) (rest : List ℕ) → FitsRow row → IsSealed extras true row.frame
    → b ≡ row_encoding row ++ rest → ⊥

-- an incomplete row: no more bytes than a time has, or after these an incomplete frame
abbrev pub IsIncompleteRow : List (ℕ × ℕ) → List ℕ → Type 0
IsIncompleteRow extras b = IsIncomplete extras true (drop 8 b)

-- the event at the start of the bytes, and what follows it; the reason is that of the bytes after a time
abbrev pub LogEventAt : List (ℕ × ℕ) → LogEvent → List ℕ → List ℕ → Type 0
LogEventAt extras (RowEvent row) b rest = FitsRow row × IsSealed extras true row.frame × (b ≡ row_encoding row ++ rest)
LogEventAt extras (SkipEvent byte why) b rest = (b ≡ byte ∷ rest) × NoRow extras b
    × SkipReason extras true (drop 8 b) why

-- where the parse stops: once the input has ended at its end, and before that at an incomplete row
abbrev pub IsRest : List (ℕ × ℕ) → Bool → List ℕ → Type 0
IsRest extras true b = b ≡ []
IsRest extras false b = IsIncompleteRow extras b

-- the parse: the events continue until there, and this is left. The Bool says that the input has ended
abbrev pub LogParse : List (ℕ × ℕ) → Bool → List LogEvent → List ℕ → List ℕ → Type 0
LogParse extras ended [] left b = (left ≡ b) × IsRest extras ended b
LogParse extras ended (event ∷ events) left b =
    (IsRest extras ended b → ⊥) × ((rest : List ℕ) × LogEventAt extras event b rest
    × LogParse extras ended events left rest)

-- the events are a prefix of the parse of the bytes, and this is left
abbrev pub BeginsLog : List (ℕ × ℕ) → Bool → List LogEvent → List ℕ → List ℕ → Type 0
BeginsLog extras ended [] left b = b ≡ left
BeginsLog extras ended (event ∷ events) left b =
    (IsRest extras ended b → ⊥) × ((rest : List ℕ) × LogEventAt extras event b rest
    × BeginsLog extras ended events left rest)
