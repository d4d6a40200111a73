-- A queue of frames that wait to be written.
use Rattle.std.specs.Prelude.{ℕ, ◌+◌, ◌-◌, ◌==◌, ◌<◌, ◌≤◌, ⊤, nat_lt, Bool, if◌then◌else◌, List, [], ◌∷◌, ◌++◌, length}
use Rattle.std.specs.Prelude.{take, drop}
use Rattle.std.specs.List.{concat}

-- what is left of a frame of which a part was written, and the whole frames that wait, the oldest first
pub record QueueState : Type 0 where
  pub begun : List ℕ
  pub waiting : List (List ℕ)

-- at most so many bytes wait
abbrev pub queue_limit : ℕ
queue_limit = 1048576

abbrev pub size_of : List (List ℕ) → ℕ
size_of [] = 0
size_of (frame ∷ frames) = length frame + size_of frames

-- frames without the oldest ones, as few as leave no more bytes than there is room for
abbrev pub newest : ℕ → List (List ℕ) → List (List ℕ)
newest room [] = []
newest room (frame ∷ frames) = if nat_lt room (size_of (frame ∷ frames)) then newest room frames else frame ∷ frames

abbrev pub queue_of : List ℕ → List (List ℕ) → QueueState
queue_of begun waiting = record { begun = begun; waiting = waiting }

-- a frame more, and the oldest ones dropped for which there is no room
abbrev pub pushed : List ℕ → QueueState → QueueState
pushed frame queue = queue_of queue.begun (newest (queue_limit - length queue.begun) (queue.waiting ++ frame ∷ []))

abbrev pub has_begun : QueueState → Bool
has_begun queue = nat_lt 0 (length queue.begun)

-- the bytes that are written next: the rest of a frame, or all that wait
abbrev pub next_bytes : QueueState → List ℕ
next_bytes queue = if has_begun queue then queue.begun else concat queue.waiting

-- so many bytes of waiting frames were written: whole frames, and a part of the next one
abbrev pub written : ℕ → List (List ℕ) → QueueState
written count [] = queue_of [] []
written count (frame ∷ frames) =
    if count == 0 then queue_of [] (frame ∷ frames)
    else (if nat_lt count (length frame) then queue_of (drop count frame) frames
    else written (count - length frame) frames)

-- so many of the bytes that are next
abbrev pub taken : ℕ → QueueState → QueueState
taken count queue = if has_begun queue then queue_of (drop count queue.begun) queue.waiting
    else written count queue.waiting

-- how many frames aren't written to their ends
abbrev pub count_of : QueueState → ℕ
count_of queue = length queue.waiting + (if has_begun queue then 1 else 0)

-- all of some sizes
abbrev pub total : List ℕ → ℕ
total [] = 0
total (size ∷ sizes) = size + total sizes

-- each is a frame's
abbrev pub AreFrames : List ℕ → Type 0
AreFrames [] = ⊤
AreFrames (size ∷ sizes) = (0 < size) × (size ≤ 280) × AreFrames sizes

-- the frames of these sizes, one after another in some bytes
abbrev pub frames_in : List ℕ → List ℕ → List (List ℕ)
frames_in [] bytes = []
frames_in (size ∷ sizes) bytes = take size bytes ∷ frames_in sizes (drop size bytes)
