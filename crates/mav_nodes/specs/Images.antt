-- What a store has of a drone.
use Rattle.std.specs.Prelude.{ℕ, List, Option}
use Rattle.plan_image.specs.Image.{IsImageOf}
use Rattle.plan_upload.specs.Drone.{DroneState}
use Rattle.mav_nodes.specs.Nodes.{DroneView}
use Rattle.mav_nodes.specs.Stores.{Holds, HoldsFrom}

-- the image of its plans, with a low bound of timestamps
abbrev pub IsStored : DroneState → ℕ → List ℕ → Type 0
IsStored drone low bytes = IsImageOf drone.sys low drone.plans bytes

-- the store of a node has what the node has stored
abbrev pub StoreHolds : Option (List ℕ) → DroneView → Type 0
StoreHolds contents view = Holds contents (IsStored view.drone) view.link.low

-- the same with its low bound, or with a later one
abbrev pub StoreHoldsFrom : Option (List ℕ) → DroneView → Type 0
StoreHoldsFrom contents view = HoldsFrom contents (IsStored view.drone) view.link.low
