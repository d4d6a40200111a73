-- What `log show` prints of a log.
use Rattle.std.specs.Prelude.{ℕ, List, [], ◌∷◌, ◌++◌, length, codes, sum_by}
use Rattle.std.specs.Fmt.{decimal}
use Rattle.field_layout.specs.Definition.{Definition}
use Rattle.mav_profile.specs.Messages.{definition_with}
use Rattle.mav_text.specs.FrameText.{skip_line}
use Rattle.mav_text.specs.TemplateText.{line_of}
use Rattle.decode_command.specs.DecodeText.{counts_text, lines_at}
use Rattle.log_rows.specs.LogParse.{LogEvent, RowEvent, SkipEvent}
use Rattle.log_rows.specs.Rows.{row_encoding}
use Rattle.log_rows.specs.declared.rows.Row.{Row}

-- how many bytes an event takes, how many rows it is, and how many skipped bytes
abbrev pub event_size : LogEvent → ℕ
event_size (RowEvent row) = length (row_encoding row)
event_size (SkipEvent byte why) = 1

abbrev pub rows_of : LogEvent → ℕ
rows_of (RowEvent row) = 1
rows_of (SkipEvent byte why) = 0

abbrev pub skips_of : LogEvent → ℕ
skips_of (RowEvent row) = 0
skips_of (SkipEvent byte why) = 1

-- `OFFSET MICROS NAME SYS.COMP #SEQ field=value ..`; a row of a parse has the id of a message
abbrev pub row_line : List Definition → ℕ → Row → List ℕ
row_line known offset row = decimal offset ++ 32
    ∷ line_of (definition_with row.frame.id known) row.micros row.frame (10 ∷ [])

-- the line of a row, or of a skipped byte
abbrev pub event_line : List Definition → ℕ → LogEvent → List ℕ
event_line known offset (RowEvent row) = row_line known offset row
event_line known offset (SkipEvent byte why) = skip_line offset byte why

-- the lines of events, of which the first is at an offset
abbrev pub lines_from : List Definition → ℕ → List LogEvent → List ℕ
lines_from known offset events = lines_at (event_line known) event_size offset events

-- sums over events
abbrev pub bytes_in : List LogEvent → ℕ
bytes_in events = sum_by event_size events

abbrev pub rows_in : List LogEvent → ℕ
rows_in events = sum_by rows_of events

abbrev pub skips_in : List LogEvent → ℕ
skips_in events = sum_by skips_of events

-- `rows N skipped M`
abbrev pub counts_line : ℕ → ℕ → List ℕ
counts_line rows skipped = counts_text (codes "rows ") rows skipped
