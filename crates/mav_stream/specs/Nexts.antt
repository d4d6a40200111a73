-- What `next` returns.
use Rattle.std.specs.Prelude.{◌≡◌, ◌<◌, ◌∷◌, List, [], length, true, false}
use Rattle.mav_frame.specs.Parse.{IsIncomplete, EventAt}
use Rattle.mav_frame.specs.declared.events.Event.{Event}
use Rattle.mav_frame.specs.declared.events.Event.TheVariants.{Frame as FrameEvent, Skipped as SkippedEvent}
use Rattle.mav_stream.specs.Held.{Held}
use Rattle.mav_stream.specs.declared.Next.{Next}
use Rattle.mav_stream.specs.declared.Next.TheVariants.{Frame, Skipped, Need}

-- the event is at the start of what was held, and the rest is held; before the end of the input no incomplete frame is
-- at the start
pub record Gives (old : Held) (event : Event) (new : Held) : Type 0 where
  pub stands : EventAt old.extras old.reads_old event old.bytes new.bytes
  pub decided : old.ended ≡ false → IsIncomplete old.extras old.reads_old old.bytes → ⊥
  pub same : new ≡ record old { bytes = new.bytes }

-- an incomplete frame is held and may still be completed, or nothing is held
pub record Needs (old new : Held) : Type 0 where
  pub same : new ≡ old
  pub incomplete : IsIncomplete old.extras old.reads_old old.bytes
  pub empty : old.ended ≡ true → old.bytes ≡ []

abbrev pub NextIs : Held → Next → Held → Type 0
NextIs old (Frame packet) new = Gives old (FrameEvent packet) new
NextIs old (Skipped byte why) new = Gives old (SkippedEvent byte why) new
NextIs old Need new = Needs old new

-- the event that a result gives, if it gives one
abbrev pub given_by : Next → List Event
given_by (Frame packet) = FrameEvent packet ∷ []
given_by (Skipped byte why) = SkippedEvent byte why ∷ []
given_by Need = []

-- fewer bytes are held after an event, and at Need there is room for one more
abbrev pub HasRoomAfter : Held → Next → Held → Type 0
HasRoomAfter old (Frame packet) new = length new.bytes < length old.bytes
HasRoomAfter old (Skipped byte why) new = length new.bytes < length old.bytes
HasRoomAfter old Need new = length new.bytes < 280
