-- Any list of calls of one reader, whatever the pieces of its stream.
use Rattle.std.specs.Prelude.{ℕ, ◌≡◌, ◌-◌, ◌++◌, ◌∷◌, List, [], length, take, min, flat_map, Bool, true, false}
use Rattle.mav_frame.specs.declared.events.Event.{Event}
use Rattle.mav_stream.specs.Held.{Held, nothing_held}
use Rattle.mav_stream.specs.Nexts.{NextIs, given_by}
use Rattle.mav_stream.specs.Progress.{Progress, IsWhole}
use Rattle.mav_stream.specs.declared.Next.{Next}
use Rattle.mav_stream.specs.declared.Next.TheVariants.{Need}

-- `feed` of a piece, which took so many bytes; `end`; `next` and its result
pub data Call : Type 0 where
  fed : List ℕ → ℕ → Call
  closed : Call
  asked : Next → Call

-- what the call does
abbrev pub CallIs : Held → Call → Held → Type 0
CallIs old (fed piece count) new =
    (old.ended ≡ false) × (count ≡ min (length piece) (280 - length old.bytes))
    × (new ≡ record old { bytes = old.bytes ++ take count piece })
CallIs old closed new = new ≡ record old { ended = true }
CallIs old (asked answer) new = NextIs old answer new

-- what the calls do, one after another
abbrev pub CallsAre : Held → List Call → Held → Type 0
CallsAre old [] new = new ≡ old
CallsAre old (call ∷ calls) new = (between : Held) × CallIs old call between × CallsAre between calls new

-- the bytes that a call took, and the events that it gave
abbrev pub taken_by : Call → List ℕ
taken_by (fed piece count) = take count piece
taken_by closed = []
taken_by (asked answer) = []

abbrev pub events_of : Call → List Event
events_of (fed piece count) = []
events_of closed = []
events_of (asked answer) = given_by answer

-- over any list of calls the events given are a prefix of the parse of the bytes taken
abbrev pub AnyCalls : Type 0
AnyCalls =
    (extras : List (ℕ × ℕ)) (reads_old : Bool) (calls : List Call) (held : Held)
    → CallsAre (nothing_held extras reads_old) calls held
    → Progress extras reads_old (flat_map taken_by calls) (flat_map events_of calls) held

-- and they are the whole parse if `next` then returns Need
abbrev pub AnyCallsToNeed : Type 0
AnyCallsToNeed =
    (extras : List (ℕ × ℕ)) (reads_old : Bool) (calls : List Call) (held new : Held)
    → CallsAre (nothing_held extras reads_old) calls held → CallIs held (asked Need) new
    → IsWhole extras reads_old (flat_map taken_by calls) (flat_map events_of calls) held
