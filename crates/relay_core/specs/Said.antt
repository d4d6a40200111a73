-- What is said of a relay while it runs, in the order in which it happens.
use Rattle.std.specs.Prelude.{List, [], ◌∷◌, ◌++◌, map}
use Rattle.relay_core.specs.declared.notes.Note.{Note}
use Rattle.relay_core.specs.Flows.{Told}

-- a frame came in, or something else happened
pub data Said : Type 0 where
  Framed : Told → Said
  Noted : Note → Said

-- `told` says what a watcher may have been told so far

-- these frames are told next
abbrev pub Tells : {Watcher : Type 0} → (Watcher → List Said → Type 0) → (watcher telling : Watcher) → List Told
    → Type 0
Tells told watcher telling more = (all : List Said) → told watcher all → told telling (all ++ map Framed more)

-- this is told next
abbrev pub Notes : {Watcher : Type 0} → (Watcher → List Said → Type 0) → (watcher telling : Watcher) → Note → Type 0
Notes told watcher telling note = (all : List Said) → told watcher all → told telling (all ++ Noted note ∷ [])
