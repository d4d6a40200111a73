-- What becomes of the frames that were pushed to a queue.
use Rattle.std.specs.Prelude.{ℕ, suc, ◌≡◌, ◌+◌, ◌-◌, ◌⊎◌, if◌then◌else◌, List, [], ◌∷◌, ◌++◌, length, take}
use Rattle.std.specs.List.{concat}
use Rattle.relay_queue.specs.Queues.{QueueState, count_of, has_begun, next_bytes, pushed, queue_of, taken}

-- these are the items of a list, in their order, without so many of them
abbrev pub LeavesOut : {A : Type 0} → ℕ → List A → List A → Type 0
LeavesOut {A} dropped [] kept = (dropped ≡ 0) × (kept ≡ [])
LeavesOut {A} dropped (x ∷ xs) kept =
    ((others : List A) × (kept ≡ x ∷ others) × LeavesOut dropped xs others)
    ⊎ ((fewer : ℕ) × (dropped ≡ suc fewer) × LeavesOut fewer xs kept)

-- of the frames that were pushed, and not dropped, some are written to their ends, then comes the one of which a part
-- was written, if there is one, and then those that wait; the bytes taken are those of the first ones and that part
pub record Delivers (pushed : List (List ℕ)) (dropped : ℕ) (taken : List ℕ) (queue : QueueState) : Type 0 where
  pub whole : List (List ℕ)
  pub begun : List (List ℕ)
  pub part : List ℕ
  pub bytes : taken ≡ concat whole ++ part
  pub rest : concat begun ≡ part ++ queue.begun
  pub one : length begun ≡ (if has_begun queue then 1 else 0)
  pub kept : LeavesOut dropped pushed (whole ++ (begun ++ queue.waiting))

-- what was taken of them in the end, where so many are dropped that weren't written to their ends: whole frames, and
-- perhaps a part of the next one
pub record Delivered (pushed : List (List ℕ)) (dropped : ℕ) (taken : List ℕ) : Type 0 where
  pub whole : List (List ℕ)
  pub lost : List (List ℕ)
  pub part : List ℕ
  pub rest : List ℕ
  pub bytes : taken ≡ concat whole ++ part
  pub next : concat lost ≡ part ++ rest
  pub before : ℕ
  pub all : dropped ≡ before + length lost
  pub kept : LeavesOut before pushed (whole ++ lost)

-- how many frames a push drops
abbrev pub drops : List ℕ → QueueState → ℕ
drops frame queue = length queue.waiting + 1 - length (pushed frame queue).waiting

-- before the first push; each push; each write; a close
abbrev pub DeliversNew : Type 0
DeliversNew = Delivers [] 0 [] (queue_of [] [])

abbrev pub DeliversPushed : Type 0
DeliversPushed =
    (all : List (List ℕ)) (dropped : ℕ) (bytes frame : List ℕ) (queue : QueueState) → Delivers all dropped bytes queue
    → Delivers (all ++ frame ∷ []) (dropped + drops frame queue) bytes (pushed frame queue)

abbrev pub DeliversWrote : Type 0
DeliversWrote =
    (all : List (List ℕ)) (dropped : ℕ) (bytes : List ℕ) (count : ℕ) (queue : QueueState)
    → Delivers all dropped bytes queue → Delivers all dropped (bytes ++ take count (next_bytes queue))
    (taken count queue)

abbrev pub DeliversClosed : Type 0
DeliversClosed =
    (all : List (List ℕ)) (dropped : ℕ) (bytes : List ℕ) (queue : QueueState) → Delivers all dropped bytes queue
    → Delivered all (dropped + count_of queue) bytes

-- the bytes taken, then those of the frame that was begun, and those of the frames that wait are the bytes of the
-- frames that weren't dropped
abbrev pub DeliversBytes : Type 0
DeliversBytes =
    (all : List (List ℕ)) (dropped : ℕ) (bytes : List ℕ) (queue : QueueState) → Delivers all dropped bytes queue
    → (kept : List (List ℕ)) × LeavesOut dropped all kept
    × (concat kept ≡ bytes ++ (queue.begun ++ concat queue.waiting))
