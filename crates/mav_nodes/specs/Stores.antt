-- What the store of a node holds, and what a call of the node does to it.
use Rattle.std.specs.Prelude.{ℕ, ◌≡◌, ◌≤◌, ◌⊎◌, Bool, true, List, [], Option, Some, None, IfSome, All, unwrap_or}
use Rattle.plan_items.specs.declared.messages.PlanMsg.{PlanMsg}
use Rattle.mav_ports.specs.Counts.{Rose, next_count}
use Rattle.plan_store.specs.declared.keepers.KeepFault.{KeepFault}
use Rattle.plan_store.specs.declared.keepers.KeepFault.TheVariants.{Store as KeptStore, NoMemory as KeptNoMemory}
use Rattle.mav_nodes.specs.declared.faults.NodeFault.{NodeFault}
use Rattle.mav_nodes.specs.declared.faults.NodeFault.TheVariants.{StampsSpent, Store, NoMemory}

-- `stored` says which bytes a store may have of a core with a low bound of timestamps.

-- the contents, if they are known: nothing before the first save, and then what is stored with the low bound
abbrev pub Holds : Option (List ℕ) → (ℕ → List ℕ → Type 0) → Option ℕ → Type 0
Holds contents stored None = IfSome contents (λ bytes. bytes ≡ [])
Holds contents stored (Some low) = IfSome contents (stored low)

-- the same before the reply to a message that changed the plans: a first save may have been made without a bound
abbrev pub HoldsNearly : Option (List ℕ) → (ℕ → List ℕ → Type 0) → Option ℕ → Type 0
HoldsNearly contents stored None = IfSome contents (λ bytes. (bytes ≡ []) ⊎ stored 0 bytes)
HoldsNearly contents stored (Some low) = Holds contents stored (Some low)

-- what a store has with a low bound, or without one
abbrev pub AreStored : (ℕ → List ℕ → Type 0) → Option ℕ → List ℕ → Type 0
AreStored stored None bytes = bytes ≡ []
AreStored stored (Some low) bytes = stored low bytes

-- what must hold before a reply: nearly, if there is one
abbrev pub StoredBefore : Option PlanMsg → Option (List ℕ) → (ℕ → List ℕ → Type 0) → Option ℕ → Type 0
StoredBefore None contents stored low = Holds contents stored low
StoredBefore (Some answer) contents stored low = HoldsNearly contents stored low

-- a low bound after another: the same, or one that was raised
abbrev pub IsRaised : Option ℕ → Option ℕ → Type 0
IsRaised old new = (new ≡ old) ⊎ ((bound : ℕ) × (new ≡ Some bound) × (unwrap_or old 0 ≤ bound))

-- the contents are what is stored with this low bound, or with a later one
abbrev pub HoldsFrom : Option (List ℕ) → (ℕ → List ℕ → Type 0) → Option ℕ → Type 0
HoldsFrom contents stored low = Holds contents stored low
    ⊎ ((bound : ℕ) × (unwrap_or low 0 ≤ bound) × IfSome contents (stored bound))

-- what the store has of a node that is given up: what is stored of one of these cores with this low bound, or with a
-- later one
pub record GivenUp {Core : Type 0} (contents : Option (List ℕ)) (stored : Core → ℕ → List ℕ → Type 0) (low : Option ℕ)
    (MayBe : Core → Type 0) : Type 0 where
  pub core : Core
  pub may_be : MayBe core
  pub holds : HoldsFrom contents (stored core) low

-- what any call does to a store: its count of faults doesn't fall, and one that can't fail stays so
pub record Serves {Store : Type 0} (faults : Store → ℕ) (is_infallible : Store → Type 0)
    (before now : Store) : Type 0 where
  pub count : faults before ≤ faults now
  pub infallible : is_infallible before → is_infallible now

-- a call of the store has failed
pub record HasFailed {Store : Type 0} (faults : Store → ℕ) (is_infallible : Store → Type 0)
    (before now : Store) : Type 0 where
  pub count : Rose (faults before) (faults now)
  pub fallible : is_infallible before → ⊥

-- it kept what a step saved, or a call of it has failed
abbrev pub IsKept : Bool → Type 0 → Type 0
IsKept kept failed = (kept ≡ true) ⊎ failed

-- the same of several steps
abbrev pub AllKept : Type 0 → List Bool → Type 0
AllKept failed keeps = All (λ kept. kept ≡ true) keeps ⊎ failed

-- a store's fault as the node's
abbrev pub fault_of : KeepFault → NodeFault
fault_of KeptStore = Store
fault_of KeptNoMemory = NoMemory

-- a call of a node fails: if by its store, a call of the store has failed; and no store's fault is want of timestamps
abbrev pub HasFailedAt : {Store : Type 0} → NodeFault → (faults : Store → ℕ) → (is_infallible : Store → Type 0)
    → (before now : Store) → Type 0
HasFailedAt StampsSpent faults is_infallible before now = ⊥
HasFailedAt Store faults is_infallible before now = HasFailed faults is_infallible before now
HasFailedAt NoMemory faults is_infallible before now = Unit {0}

-- a step ends by a store that had what was stored only if two of its calls failed: the save, and the look at what it
-- has
abbrev pub HasFailedTwice : NodeFault → Option (List ℕ) → (ℕ → List ℕ → Type 0) → Option ℕ → (before now : ℕ) → Type 0
HasFailedTwice Store contents stored low before now =
    (old : List ℕ) → AreStored stored low old → IfSome contents (λ kept. kept ≡ old → Rose (next_count before) now)
HasFailedTwice fault contents stored low before now = Unit {0}

-- what a node's store, which had what was stored, says of a fault in a step: two calls failed, or it has the step
abbrev pub EndsStep : {Core : Type 0} → NodeFault → (contents then : Option (List ℕ)) → (Core → ℕ → List ℕ → Type 0)
    → (core after : Core) → Option ℕ → (before now : ℕ) → Type 0
EndsStep fault contents then stored core after low before now =
    HasFailedTwice fault contents (stored core) low before now ⊎ HoldsFrom then (stored after) low
