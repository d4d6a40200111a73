-- What a node leaves in its store that is given up in a call.
use Rattle.std.specs.Prelude.{ℕ, Bool, List, [], ◌∷◌, ◌++◌, Option}
use Rattle.mav_frame.specs.declared.events.Event.{Event}
use Rattle.mav_frame.specs.Packet.{Packet}
use Rattle.mav_sign.specs.Endpoints.{frames_of}
use Rattle.mav_nodes.specs.LowBounds.{stored_low}
use Rattle.mav_nodes.specs.Stores.{HoldsFrom}
use Rattle.mav_nodes.specs.Streams.{GrowsBy}
use Rattle.mav_nodes.specs.Images.{IsStored}
use Rattle.mav_nodes.specs.GivenUp.{DroneGivenUp}
use Rattle.node_reports.specs.Nodes.{Node, Drone, Station}
use Rattle.live_node.specs.declared.nodes.LiveNode.{LiveNode}
use Rattle.live_node.specs.Nodes.{IsLive, IsKeptBy, HasHeard}
use Rattle.live_node.specs.Calls.{LiveCall, extras_at}

-- the store has what the node has stored
pub record StoreIs (contents : Option (List ℕ)) (node : Node) : Type 0 where
  pub live : LiveNode
  pub is : IsLive node live
  pub kept : IsKeptBy contents live

-- a call that hears no frame changes no plan: it leaves what the drone had stored, or a later low bound
abbrev pub CallLeaves : Option (List ℕ) → Node → List LiveCall → Type 0
CallLeaves contents node [] = StoreIs contents node
CallLeaves contents (Drone n) (call ∷ rest) = HoldsFrom contents (IsStored n.core) (stored_low n.link.history)
CallLeaves contents (Station n) (call ∷ rest) = Unit {0}

-- at one of these frames; a station stores nothing
abbrev pub NodeGivenUp : ℕ → (List Bool → Type 0) → Option (List ℕ) → List Packet → Node → Type 0
NodeGivenUp clock kept contents packets (Drone n) = DroneGivenUp clock kept contents packets n
NodeGivenUp clock kept contents packets (Station n) = Unit {0}

-- at a piece
abbrev pub PieceLeaves : ℕ → List ℕ → (List Bool → Type 0) → Option (List ℕ) → LiveNode → Type 0
PieceLeaves clock piece kept contents live =
    (node : Node) (taken : List ℕ) (given events : List Event) → IsLive node live → HasHeard taken given live
    → GrowsBy (extras_at node) (taken ++ piece) given events
    → NodeGivenUp clock kept contents (frames_of events) node
