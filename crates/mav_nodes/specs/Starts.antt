-- How a drone starts from what its store has.
use Rattle.std.specs.Prelude.{ℕ, ◌≡◌, ◌≢◌, ◌⊎◌, List, [], Option, IfSome}
use Rattle.plan_image.specs.Plans.{Plans}
use Rattle.plan_image.specs.Image.{IsImageOf, IsImage}
use Rattle.plan_image.specs.declared.faults.KeptFault.{KeptFault}
use Rattle.plan_image.specs.declared.faults.KeptFault.TheVariants.{BadKept as BadImage, NoMemory as NoImageMemory}
use Rattle.plan_store.specs.declared.keepers.KeepFault.{KeepFault}
use Rattle.plan_store.specs.declared.keepers.KeepFault.TheVariants.{Store as KeptStore, NoMemory as KeptNoMemory}
use Rattle.mav_nodes.specs.declared.faults.StartFault.{StartFault}
use Rattle.mav_nodes.specs.declared.faults.StartFault.TheVariants.{Store, BadKept, NoMemory}
use Rattle.drone_sim.specs.declared.points.Point.{Point}
use Rattle.mav_nodes.specs.Nodes.{DroneView, IsDrone, new_drone}
use Rattle.mav_nodes.specs.Restarts.{stored_drone}

-- it starts from an image of its system
pub record FromImage (key : List ℕ) (sys : ℕ) (home : Point) (node : DroneView) : Type 0 where
  pub low : ℕ
  pub plans : Plans
  pub bytes : List ℕ
  pub is_image : IsImageOf sys low plans bytes
  pub is : IsDrone (stored_drone key sys home low plans) node

-- or anew
abbrev pub IsStarted : List ℕ → ℕ → Point → DroneView → Type 0
IsStarted key sys home node = IsDrone (new_drone key sys home) node ⊎ FromImage key sys home node

-- from these contents of its store: anew if they are empty, and else with the low bound and the plans of the image
pub record StartedFrom (key : List ℕ) (sys : ℕ) (home : Point) (bytes : List ℕ) (node : DroneView) : Type 0 where
  pub anew : bytes ≡ [] → IsDrone (new_drone key sys home) node
  pub stored : (low : ℕ) (plans : Plans) → IsImageOf sys low plans bytes
      → IsDrone (stored_drone key sys home low plans) node
  pub either : (bytes ≡ []) ⊎ IsImage sys bytes

-- it doesn't start: a call of the store has failed, or the contents are neither empty nor an image of the system
abbrev pub StartFails : StartFault → ℕ → Option (List ℕ) → Type 0 → Type 0
StartFails Store sys contents failed = failed
StartFails BadKept sys contents failed = IfSome contents (λ bytes. (bytes ≢ []) × (IsImage sys bytes → ⊥))
StartFails NoMemory sys contents failed = Unit {0}

-- a store's fault, and the one of its contents
abbrev pub start_fault_of : KeepFault → StartFault
start_fault_of KeptStore = Store
start_fault_of KeptNoMemory = NoMemory

abbrev pub start_fault_by : KeptFault → StartFault
start_fault_by BadImage = BadKept
start_fault_by NoImageMemory = NoMemory
