-- Laws of the parse of a log.
use Rattle.std.specs.Prelude.{ℕ, ◌≡◌, Bool, true, false, List, [], ◌++◌, All, map, flat_map}
use Rattle.mav_frame.specs.Encoding.{IsSealed}
use Rattle.log_rows.specs.LogEvents.{log_events}
use Rattle.log_rows.specs.LogParse.{LogEvent, RowEvent, LogParse, BeginsLog}
use Rattle.log_rows.specs.Rows.{row_encoding, FitsRow}
use Rattle.log_rows.specs.declared.rows.Row.{Row}

-- the parse is what the function gives
abbrev pub ParseIsFunction : Type 0
ParseIsFunction =
    (extras : List (ℕ × ℕ)) (ended : Bool) (events : List LogEvent) (left b : List ℕ)
    → LogParse extras ended events left b → log_events extras ended b ≡ events

-- a prefix of the parse, and then the parse of what is left
abbrev pub BeginsByFunction : Type 0
BeginsByFunction =
    (extras : List (ℕ × ℕ)) (ended : Bool) (events : List LogEvent) (left b : List ℕ)
    → BeginsLog extras ended events left b → log_events extras ended b ≡ events ++ log_events extras ended left

-- before the input ended more bytes change no event
abbrev pub MoreBytesKeepRows : Type 0
MoreBytesKeepRows =
    (extras : List (ℕ × ℕ)) (events : List LogEvent) (left b more : List ℕ) → BeginsLog extras false events left b
    → BeginsLog extras false events (left ++ more) (b ++ more)

-- nor does the end of the input
abbrev pub ParseBegins : Type 0
ParseBegins = (extras : List (ℕ × ℕ)) (events : List LogEvent) (left b : List ℕ) → BeginsLog extras false events left b
    → BeginsLog extras true events left b

-- the bytes of sealed rows are read as these rows, whether the input has ended or not
abbrev pub RowsReadBack : Type 0
RowsReadBack =
    (extras : List (ℕ × ℕ)) (ended : Bool) (rows : List Row) → All FitsRow rows
    → All (λ row. IsSealed extras true row.frame) rows
    → LogParse extras ended (map RowEvent rows) [] (flat_map row_encoding rows)
