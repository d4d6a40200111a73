-- What the store has of a drone that is given up.
use Rattle.std.specs.Prelude.{ℕ, Bool, List, Option}
use Rattle.mav_frame.specs.Packet.{Packet}
use Rattle.mav_nodes.specs.Nodes.{DroneSide, drone_core_keeping, drone_rules_keeping}
use Rattle.mav_nodes.specs.Images.{IsStored}
use Rattle.mav_nodes.specs.Promises.{GivenUpIn}

-- at one of these frames
abbrev pub DroneGivenUp : ℕ → (List Bool → Type 0) → Option (List ℕ) → List Packet → DroneSide → Type 0
DroneGivenUp clock kept contents packets node =
    GivenUpIn drone_core_keeping IsStored drone_rules_keeping clock kept contents packets node
