-- What `decode` does with the bytes of its input, by given definitions and perhaps a key.
use Rattle.std.specs.Prelude.{ℕ, Bool, List}
use Rattle.decode_command.specs.declared.context.DecodeContext.{DecodeContext}
use Rattle.mav_profile.specs.Messages.{extras_of}
use Rattle.run_status.specs.Runs.{CommandSpec}
use Rattle.decode_command.specs.Parsing.{final_events, parse_events}
use Rattle.decode_command.specs.DecodeText.{event_lines, last_line}
use Rattle.decode_command.specs.Tellings.{Telling, telling_spec}

-- the lines of all events: of the final parse if the input ended, else of the incremental parse
abbrev pub lines_at : DecodeContext → Bool → List ℕ → List ℕ
lines_at known ended bytes = event_lines known (parse_events (extras_of known.dialect) ended bytes)

-- and after them the counts
abbrev pub decode_telling : DecodeContext → Telling
decode_telling known = record {
  told = lines_at known;
  closing = λ bytes. last_line (final_events (extras_of known.dialect) bytes);
}

abbrev pub decode_spec : DecodeContext → CommandSpec
decode_spec known = telling_spec (decode_telling known)
