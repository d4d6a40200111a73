-- What the calls of a disk do to its bytes, and what a crash may leave of them between two syncs.
use Rattle.std.specs.Prelude.{◌≡◌, ◌⊎◌, ◌<◌, ◌≤◌, ◌+◌, ℕ, List, take, drop, length, get_or, Ok, Err}
use Rattle.std.specs.declared.result.Result.{Result}
use Rattle.mav_ports.specs.Counts.{Rose}
use Rattle.slot_store.specs.declared.disks.DiskFault.{DiskFault}

-- the n bytes of an image from this offset on
abbrev pub bytes_at : ℕ → ℕ → List ℕ → List ℕ
bytes_at at n image = take n (drop at image)

-- the images are as long as one another, and have the same bytes outside the n from this offset on
pub record SameOutside (at n : ℕ) (before after : List ℕ) : Type 0 where
  pub size : length after ≡ length before
  pub bytes : (i : ℕ) → (i < at) ⊎ (at + n ≤ i) → get_or after i 0 ≡ get_or before i 0

-- the image after is the one before with these bytes from this offset on
pub record Writes (at : ℕ) (written before after : List ℕ) : Type 0 where
  pub outside : SameOutside at (length written) before after
  pub inside : bytes_at at (length written) after ≡ written

-- each image that a crash may leave now is one that it could leave before, with any bytes in this range
abbrev pub Tears : ℕ → ℕ → (List ℕ → Type 0) → (List ℕ → Type 0) → Type 0
Tears at n before now = (c : List ℕ) → now c → (d : List ℕ) × before d × SameOutside at n d c

-- a crash may leave nothing now that it couldn't leave before
abbrev pub LeavesNoMore : (List ℕ → Type 0) → (List ℕ → Type 0) → Type 0
LeavesNoMore before now = (c : List ℕ) → now c → before c

-- a crash leaves this image, and no other
abbrev pub LeavesAlone : List ℕ → (List ℕ → Type 0) → Type 0
LeavesAlone image may_leave = (c : List ℕ) → may_leave c → c ≡ image

-- Time goes on: a crash since t might have left what it might have left before, or what it may leave now.
pub record Elapses (before now : ℕ) (past since : ℕ → List ℕ → Type 0) (may_leave : List ℕ → Type 0) : Type 0 where
  pub later : before ≤ now
  pub nothing_else : (t : ℕ) (c : List ℕ) → t ≤ before → since t c → past t c ⊎ may_leave c
  pub keeps : (t : ℕ) (c : List ℕ) → t ≤ before → past t c → since t c

-- A crash at any moment since the disk was `old`, during a call or between two, leaves an image that has P.
pub record LeavesOnly {D : Type 0} (moment : D → ℕ) (left_since : D → ℕ → List ℕ → Type 0) (old new : D)
    (P : List ℕ → Type 0) : Type 0 where
  pub later : moment old ≤ moment new
  pub each : (c : List ℕ) → left_since new (moment old) c → P c
  -- for what began earlier
  pub before : (t : ℕ) (c : List ℕ) → t ≤ moment old → left_since new t c → left_since old t c ⊎ P c

-- a call fails only if the count of faults rises
abbrev pub CountsDiskFault : {A : Type 0} → Result A DiskFault → ℕ → ℕ → Type 0
CountsDiskFault (Ok done) before now = now ≡ before
CountsDiskFault (Err fault) before now = Rose before now
