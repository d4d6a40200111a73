-- Laws of parses.
use Rattle.std.specs.Prelude.{ℕ, ◌≡◌, ◌≢◌, ◌<◌, ◌↔◌, All, flat_map, Bool, true, false, List, [], ◌∷◌, ◌++◌}
use Rattle.mav_frame.specs.Packet.{Packet, FitsFrame}
use Rattle.mav_frame.specs.Encoding.{encoding, IsSealed}
use Rattle.mav_frame.specs.Looks.{look_of}
use Rattle.mav_frame.specs.declared.looks.Look.TheVariants.{More}
use Rattle.mav_frame.specs.Parse.{IsIncomplete, EventAt, Final, Incremental, BeginsIncremental, BeginsFinal}
use Rattle.mav_frame.specs.Parse.{event_bytes}
use Rattle.mav_frame.specs.FinalParse.{final_parse}
use Rattle.mav_frame.specs.declared.events.Event.{Event}
use Rattle.mav_frame.specs.declared.events.Event.TheVariants.{Frame, Skipped}

-- a stream of bytes has the final parse that the function gives
abbrev pub FinalIsFunction : Type 0
FinalIsFunction = (extras : List (ℕ × ℕ)) (old : Bool) (b : List ℕ) → All (λ byte. byte < 256) b
    → Final extras old (final_parse extras old b) b

-- a stream has one final parse at most
abbrev pub OneFinal : Type 0
OneFinal = (extras : List (ℕ × ℕ)) (old : Bool) (b : List ℕ) (events others : List Event) → Final extras old events b
    → Final extras old others b → events ≡ others

-- a stream has one incremental parse at most
abbrev pub OneIncremental : Type 0
OneIncremental =
    (extras : List (ℕ × ℕ)) (old : Bool) (b left also_left : List ℕ) (events others : List Event)
    → Incremental extras old events left b → Incremental extras old others also_left b → (events ≡ others)
    × (left ≡ also_left)

-- more bytes change no event of the incremental parse
abbrev pub MoreBytesKeep : Type 0
MoreBytesKeep =
    (extras : List (ℕ × ℕ)) (old : Bool) (events : List Event) (left b more : List ℕ)
    → BeginsIncremental extras old events left b → BeginsIncremental extras old events (left ++ more) (b ++ more)

-- a prefix of the incremental parse continues by the event at the start of what is left
abbrev pub IncrementalGoesOn : Type 0
IncrementalGoesOn =
    (extras : List (ℕ × ℕ)) (old : Bool) (events : List Event) (event : Event) (left rest b : List ℕ)
    → BeginsIncremental extras old events left b → (IsIncomplete extras old left → ⊥)
    → EventAt extras old event left rest → BeginsIncremental extras old (events ++ event ∷ []) rest b

-- it is whole if what is left is an incomplete frame
abbrev pub IncrementalEnds : Type 0
IncrementalEnds =
    (extras : List (ℕ × ℕ)) (old : Bool) (events : List Event) (left b : List ℕ)
    → BeginsIncremental extras old events left b → IsIncomplete extras old left
    → Incremental extras old events left b

-- a prefix of the final parse continues by the event at the start of what is left
abbrev pub FinalGoesOn : Type 0
FinalGoesOn =
    (extras : List (ℕ × ℕ)) (old : Bool) (events : List Event) (event : Event) (left rest b : List ℕ)
    → BeginsFinal extras old events left b → EventAt extras old event left rest
    → BeginsFinal extras old (events ++ event ∷ []) rest b

-- it is whole if nothing is left
abbrev pub FinalEnds : Type 0
FinalEnds =
    (extras : List (ℕ × ℕ)) (old : Bool) (events : List Event) (b : List ℕ) → BeginsFinal extras old events [] b
    → Final extras old events b

-- the events of the incremental parse are events of the final parse
abbrev pub IncrementalBeginsFinal : Type 0
IncrementalBeginsFinal =
    (extras : List (ℕ × ℕ)) (old : Bool) (events : List Event) (left b : List ℕ)
    → BeginsIncremental extras old events left b → BeginsFinal extras old events left b

-- the result `More` is that of an incomplete frame, and of nothing else
abbrev pub IncompleteIsMore : Type 0
IncompleteIsMore =
    (extras : List (ℕ × ℕ)) (old : Bool) (b : List ℕ) → IsIncomplete extras old b
    ↔ ((k : ℕ) × (look_of extras old b ≡ More k))

-- the bytes of the events in order, and then what is left, are the bytes
abbrev pub EventsCoverBytes : Type 0
EventsCoverBytes =
    (extras : List (ℕ × ℕ)) (old : Bool) (events : List Event) (left b : List ℕ) → BeginsFinal extras old events left b
    → b ≡ flat_map event_bytes events ++ left

-- a frame has one encoding, which is a prefix of no other frame's
abbrev pub EncodingsArePrefixFree : Type 0
EncodingsArePrefixFree =
    (extras : List (ℕ × ℕ)) (old : Bool) (packet other : Packet) (more : List ℕ) → FitsFrame packet → FitsFrame other
    → IsSealed extras old packet → IsSealed extras old other → encoding other ≡ encoding packet ++ more
    → (packet ≡ other) × (more ≡ [])

-- a frame of MAVLink 2, or a skipped byte
abbrev pub IsNew : Event → Type 0
IsNew (Frame packet) = packet.old ≡ false
IsNew (Skipped byte why) = Unit {0}

-- if frames of MAVLink 1 aren't read, none is in a parse
abbrev pub OldFramesUnread : Type 0
OldFramesUnread =
    (extras : List (ℕ × ℕ)) (events : List Event) (b : List ℕ) → Final extras false events b → All IsNew events

-- a stream without 0xFE has the same parse whether they are read or not
abbrev pub SameWithoutOldStx : Type 0
SameWithoutOldStx =
    (extras : List (ℕ × ℕ)) (b : List ℕ) → All (λ byte. byte ≢ 0xFE) b
    → final_parse extras true b ≡ final_parse extras false b
