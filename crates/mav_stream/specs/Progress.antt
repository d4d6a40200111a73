-- How far a reader is in the parse of the whole stream.
use Rattle.std.specs.Prelude.{ℕ, ◌≡◌, ◌-◌, ◌++◌, Bool, List, length, take, min, true, false}
use Rattle.mav_frame.specs.Parse.{Incremental, Final, BeginsIncremental, BeginsFinal}
use Rattle.mav_frame.specs.declared.events.Event.{Event}
use Rattle.mav_stream.specs.Held.{Held}
use Rattle.mav_stream.specs.declared.Next.{Next}
use Rattle.mav_stream.specs.declared.Next.TheVariants.{Frame, Skipped, Need}

-- the events given are a prefix of the parse of the bytes taken, and what is left of these is held:
-- the incremental parse before the end of the input, the final parse at any time
pub record Progress (extras : List (ℕ × ℕ)) (reads_old : Bool) (taken : List ℕ) (given : List Event)
    (held : Held) : Type 0 where
  pub same : held.extras ≡ extras
  pub version : held.reads_old ≡ reads_old
  pub incremental : held.ended ≡ false → BeginsIncremental extras reads_old given held.bytes taken
  pub final : BeginsFinal extras reads_old given held.bytes taken

-- the events given are the whole incremental parse, and after the end of the input the final parse
pub record IsWhole (extras : List (ℕ × ℕ)) (reads_old : Bool) (taken : List ℕ) (given : List Event)
    (held : Held) : Type 0 where
  pub incremental : held.ended ≡ false → Incremental extras reads_old given held.bytes taken
  pub final : held.ended ≡ true → Final extras reads_old given taken

-- at Need the events given are the whole parse
abbrev pub WholeAtNeed : List (ℕ × ℕ) → Bool → List ℕ → List Event → Next → Held → Type 0
WholeAtNeed extras reads_old taken given (Frame packet) held = Unit {0}
WholeAtNeed extras reads_old taken given (Skipped byte why) held = Unit {0}
WholeAtNeed extras reads_old taken given Need held = IsWhole extras reads_old taken given held

-- as many bytes of a piece were taken as fit beside those held, and the events given are a prefix of the parse of all
-- that were taken
pub record Feeds (room : ℕ) (old : Held) (piece : List ℕ) (took : ℕ) (new : Held) : Type 0 where
  pub count : took ≡ min (length piece) (room - length old.bytes)
  pub held : new ≡ record old { bytes = old.bytes ++ take took piece }
  pub progress : (extras : List (ℕ × ℕ)) (reads_old : Bool) (taken : List ℕ) (given : List Event) → old.ended ≡ false
      → Progress extras reads_old taken given old → Progress extras reads_old (taken ++ take took piece) given new

-- the input has ended
pub record Ends (old new : Held) : Type 0 where
  pub held : new ≡ record old { ended = true }
  pub progress : (extras : List (ℕ × ℕ)) (reads_old : Bool) (taken : List ℕ) (given : List Event)
      → Progress extras reads_old taken given old → Progress extras reads_old taken given new
