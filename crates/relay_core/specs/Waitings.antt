-- What waits for each link of a relay, in the order of their opening.
use Rattle.std.specs.Prelude.{ℕ, ◌≡◌, ◌+◌, ◌-◌, ◌^◌, ◌<◌, ◌≤◌, min, Bool, if◌then◌else◌, List, [], length, slice_get}
use Rattle.std.specs.Prelude.{Some}
use Rattle.relay_queue.specs.Queues.{QueueState, count_of, pushed, queue_of, taken}

-- what waits for a link, and how many of its frames were dropped, counted up to the greatest number of 8 bytes
pub record WaitingState : Type 0 where
  pub queue : QueueState
  pub dropped : ℕ

abbrev pub counted : ℕ → ℕ
counted n = min n (2 ^ 64 - 1)

abbrev pub nothing_waits : WaitingState
nothing_waits = record { queue = queue_of [] []; dropped = 0 }

-- a frame more waits, and those are counted for which there is no room
abbrev pub waits : List ℕ → WaitingState → WaitingState
waits bytes waiting = record {
  queue = pushed bytes waiting.queue;
  dropped = counted (waiting.dropped + (length waiting.queue.waiting
      + 1 - length (pushed bytes waiting.queue).waiting));
}

-- so many of the bytes that are next were written
abbrev pub wrote : ℕ → WaitingState → WaitingState
wrote count waiting = record { queue = taken count waiting.queue; dropped = waiting.dropped }

-- how many frames of a link that closes were dropped: those that weren't written to their ends are, too
abbrev pub lost : WaitingState → ℕ
lost waiting = counted (waiting.dropped + count_of waiting.queue)

-- of so many links, from the first one, a frame waits at those to which it goes, and nothing changes at any other
pub record WaitsAt (count : ℕ) (goes : ℕ → Bool) (bytes : List ℕ) (old new : List WaitingState) : Type 0 where
  pub same : length new ≡ length old
  pub later : (k : ℕ) → count ≤ k → slice_get new k ≡ slice_get old k
  pub each : (k : ℕ) (waiting : WaitingState) → k < count → slice_get old k ≡ Some waiting
      → slice_get new k ≡ Some (if goes k then waits bytes waiting else waiting)

-- where there was no memory for it, it waits at some of the first of them alone
pub record WaitsInPart (goes : ℕ → Bool) (bytes : List ℕ) (old new : List WaitingState) : Type 0 where
  pub count : ℕ
  pub less : count < length old
  pub waits : WaitsAt count goes bytes old new
