-- What an endpoint receives of a stream that comes in pieces.
use Rattle.std.specs.Prelude.{ℕ, ◌≡◌, List, [], ◌∷◌, ◌++◌, Option, Some, None, false}
use Rattle.mav_frame.specs.Packet.{Packet}
use Rattle.mav_frame.specs.Parse.{Incremental}
use Rattle.mav_frame.specs.declared.events.Event.{Event}
use Rattle.mav_stream.specs.Held.{Held}
use Rattle.mav_stream.specs.Progress.{Progress}
use Rattle.mav_sign.specs.declared.heard.Heard.{Heard}
use Rattle.mav_sign.specs.History.{Entry}
use Rattle.mav_sign.specs.Kept.{Kept}
use Rattle.mav_sign.specs.Endpoints.{EndpointState, frames_of, Told}

-- one, or none
abbrev pub listed : {A : Type 0} → Option A → List A
listed None = []
listed (Some a) = a ∷ []

-- the parse advanced to the end of a frame, or over all of the bytes
pub record ReadTo (extras : List (ℕ × ℕ)) (taken : List ℕ) (given : List Event) (frame : Option Packet)
    (held : Held) : Type 0 where
  pub events : List Event
  pub frames : frames_of events ≡ listed frame
  pub progress : Progress extras false taken (given ++ events) held
  pub whole : frame ≡ None → Incremental extras false (given ++ events) held.bytes taken

-- the parse advanced over skipped bytes only
pub record SkippedTo (extras : List (ℕ × ℕ)) (taken : List ℕ) (given : List Event) (held : Held) : Type 0 where
  pub events : List Event
  pub frames : frames_of events ≡ []
  pub progress : Progress extras false taken (given ++ events) held

-- the reader of an endpoint: its input hasn't ended
abbrev pub reader_of : EndpointState → Held
reader_of endpoint = record { extras = endpoint.extras; reads_old = false; bytes = endpoint.held; ended = false }

-- the incremental parse advanced by some events, whose frame, if there is one, was received; without one it is whole
pub record PartHeard (extras : List (ℕ × ℕ)) (key : List ℕ) (history : List Entry) (taken : List ℕ)
    (given : List Event) (heard : Option Heard) (held : Held) (stamps : Kept) : Type 0 where
  pub events : List Event
  pub progress : Progress extras false taken (given ++ events) held
  pub told : Told key history (frames_of events) [] (listed heard) stamps
  pub whole : heard ≡ None → Incremental extras false (given ++ events) held.bytes taken
