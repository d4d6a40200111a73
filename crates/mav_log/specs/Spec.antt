-- What the commands over logs do with the bytes of their input.
use Rattle.std.specs.Prelude.{ℕ, true, List, []}
use Rattle.field_layout.specs.Definition.{Definition}
use Rattle.mav_profile.specs.Messages.{extras_of}
use Rattle.decode_command.specs.Parsing.{parse_events}
use Rattle.log_rows.specs.LogEvents.{log_events}
use Rattle.mav_log.specs.LogText.{lines_from, counts_line, rows_in, skips_in}
use Rattle.mav_log.specs.RowsMade.{rows_of_system, rows_from}
use Rattle.decode_command.specs.Tellings.{Telling, telling_spec}
use Rattle.run_status.specs.Runs.{CommandSpec}

-- `log show`: the lines of the events, and then the counts
abbrev pub show_telling : List Definition → Telling
show_telling known = record {
  told = λ ended b. lines_from known 0 (log_events (extras_of known) ended b);
  closing = λ b. counts_line (rows_in (log_events (extras_of known) true b))
      (skips_in (log_events (extras_of known) true b));
}

-- `log filter`: the rows of a system as they are
abbrev pub filter_telling : List Definition → ℕ → Telling
filter_telling known sys = record {
  told = λ ended b. rows_of_system sys (log_events (extras_of known) ended b);
  closing = λ b. [];
}

-- `log make`: the frames of a stream as rows from a time on
abbrev pub make_telling : List Definition → ℕ → Telling
make_telling known start = record {
  told = λ ended b. rows_from start (parse_events (extras_of known) ended b);
  closing = λ b. [];
}

abbrev pub show_spec : List Definition → CommandSpec
show_spec known = telling_spec (show_telling known)

abbrev pub filter_spec : List Definition → ℕ → CommandSpec
filter_spec known sys = telling_spec (filter_telling known sys)

abbrev pub make_spec : List Definition → ℕ → CommandSpec
make_spec known start = telling_spec (make_telling known start)
