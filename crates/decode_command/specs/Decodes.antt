-- What `decode` has told of a stream.
use Rattle.std.specs.Prelude.{ℕ, ◌≡◌, ◌+◌, ◌*◌, Bool, true, List, ◌++◌, length}
use Rattle.decode_command.specs.declared.context.DecodeContext.{DecodeContext}
use Rattle.mav_profile.specs.Messages.{extras_of}
use Rattle.mav_frame.specs.declared.events.Event.{Event}
use Rattle.mav_stream.specs.Held.{Held}
use Rattle.mav_stream.specs.Progress.{Progress}
use Rattle.decode_command.specs.Parsing.{parse_events}
use Rattle.decode_command.specs.DecodeText.{event_lines, bytes_in, frames_in, skips_in}

-- a reader gave events, and holds the rest
abbrev pub GaveEvents : List Event → Held → Held → Type 0
GaveEvents events old new = (extras : List (ℕ × ℕ)) (old_too : Bool) (taken : List ℕ) (given : List Event)
    → Progress extras old_too taken given old → Progress extras old_too taken (given ++ events) new

-- the messages and the key that are known, what is held of the stream, the offset of the next event, and the counts so
-- far
pub record Decoding : Type 0 where
  pub known : DecodeContext
  pub reader : Held
  pub offset : ℕ
  pub frames : ℕ
  pub skipped : ℕ

-- the lines of these events were told, and they are a prefix of the parse
pub record HasDecoded (d : Decoding) (ended : Bool) (taken told : List ℕ) : Type 0 where
  pub given : List Event
  pub is_ended : d.reader.ended ≡ ended
  pub progress : Progress (extras_of d.known.dialect) true taken given d.reader
  pub offset : d.offset ≡ bytes_in given
  pub frames : d.frames ≡ frames_in given
  pub skipped : d.skipped ≡ skips_in given
  pub lines : told ≡ event_lines d.known given

-- and they are all of it
pub record HasDecodedAll (d : Decoding) (ended : Bool) (taken told : List ℕ) : Type 0 where
  pub has : HasDecoded d ended taken told
  pub all : has.given ≡ parse_events (extras_of d.known.dialect) ended taken

-- bounds its counts
abbrev pub decoding_load : Decoding → ℕ
decoding_load d = d.offset + d.frames + d.skipped + 3 * length d.reader.bytes
